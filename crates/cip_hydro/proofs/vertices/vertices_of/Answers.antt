use Rattle.std.proofs.Common.{◌<◌, ◌+◌, ◌∙◌, ap, arith, length}
use Rattle.cip_hydro.proofs.lemmas.Around.{surroundings_count}
use Rattle.cip_hydro.proofs.lemmas.Drawn.{vertices_next}
use Rattle.cip_hydro.proofs.vertices.vertices_of.Goals as goal

pub bounds-surroundings-number : goal.bounds-surroundings-number
bounds-surroundings-number c =
    rw (c.requires.around, surroundings_count c.args.molecule.now, ← c.atoms-atom-items.ensures.value)
    c.loop-number-test.true

pub push_reserved-requires : goal.push_reserved-requires
push_reserved-requires c =
    let within : c.loop-number.number < length c.args.surroundings.now =
    rw (c.requires.around, surroundings_count c.args.molecule.now, ← c.atoms-atom-items.ensures.value)
    c.loop-number-test.true in
    omega (arith, within, c.loop-number.invariant.count, c.loop-number.invariant.room)

pub loop-number-preserved : goal.loop-number-preserved
loop-number-preserved c = record {
  value = c.push_reserved.ensures.items
      ∙ vertices_next _ _ _ _ _ _ _ c.atoms-atom-items.ensures.value c.requires.around c.loop-number-test.true
      c.loop-number.invariant.value c.atom_vertex.ensures;
  count = c.push_reserved.ensures.len ∙ ap (λ n. n + 1) c.loop-number.invariant.count;
  room = omega (arith, c.push_reserved.ensures.capacity, c.loop-number.invariant.room);
}
