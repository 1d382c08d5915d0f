use Rattle.std.proofs.lemmas.Grind.{common_steps}
use Rattle.std.proofs.Common.{arith, false}
use Rattle.cip_hydro.specs.declared.valence_state.ValenceState.{ValenceState}
use Rattle.cip_hydro.proofs.lemmas.Carried.{count_next, edges_on, left_next}
use Rattle.cip_hydro.proofs.edges.push_hydrogens.Goals as goal

abbrev nothing : ValenceState
nothing = record { hydrogens = 0; lone = false; is_neglected = false }

pub push_carried-requires-clause-few : goal.push_carried-requires-clause-few
push_carried-requires-clause-few c =
    let left = count_next c.args.surroundings.now c.loop-atom.atom nothing c.loop-atom-test.true _ _
    c.loop-atom.invariant.count in
    omega (arith, left, c.requires.few)

pub push_carried-requires-clause-room : goal.push_carried-requires-clause-room
push_carried-requires-clause-room c =
    let left = left_next c.args.surroundings.now c.loop-atom.atom nothing c.loop-atom-test.true in
    let room = c.loop-atom.invariant.room in
    omega (arith, left, room)

pub loop-atom-preserved : goal.loop-atom-preserved
loop-atom-preserved c = record {
  edges = edges_on c.args.surroundings.now c.loop-atom.atom nothing c.loop-atom-test.true _ _ _ _
      c.loop-atom.invariant.edges c.push_carried.ensures.value;
  count = count_next c.args.surroundings.now c.loop-atom.atom nothing c.loop-atom-test.true _ _
      c.loop-atom.invariant.count;
  room =
      let left = left_next c.args.surroundings.now c.loop-atom.atom nothing c.loop-atom-test.true in
      let room = c.loop-atom.invariant.room in
      omega (arith, left, room, c.push_carried.ensures.count, c.push_carried.ensures.room);
}

pub returns : goal.returns
returns c = grind (arith, common_steps)

pub overflow_add-next : goal.overflow_add-next
overflow_add-next c = grind (arith, common_steps)
