use Rattle.std.proofs.lemmas.Grind.{common_steps}
use Rattle.std.proofs.Common.{◌<◌, ◌≤◌, arith, length, take}
use Rattle.std.specs.Prelude.{flat_map}
use Rattle.cip_ring.proofs.lemmas.Further.{no_shorter_now, one_more}
use Rattle.cip_ring.proofs.search.step_on.Goals as goal

pub get-vertex-requires : goal.get-vertex-requires
get-vertex-requires g c =
    let first = flat_map (g.S.Neighbours.step c.args.steps.now) (take c.loop-place.place c.args.reached.now) in
    let longer : length c.args.reached.now ≤ length c.loop-place.reached =
    no_shorter_now c.args.reached.now first c.loop-place.reached c.loop-place.invariant.value in
    omega (arith, longer, c.loop-place-test.true, c.len-place-end.ensures)

pub loop-place-preserved : goal.loop-place-preserved
loop-place-preserved g c =
    let lt : c.loop-place.place < length c.args.reached.now =
    omega (arith, c.loop-place-test.true, c.len-place-end.ensures) in
    record {
      value =
          one_more (g.S.Neighbours.step c.args.steps.now) _ _ _ _ _ lt c.loop-place.invariant.value c.get-vertex.ensures
          c.in-Ok.ensures;
      upto = omega (arith, lt);
    }

pub returns : goal.returns
returns g c = grind (arith, common_steps)
