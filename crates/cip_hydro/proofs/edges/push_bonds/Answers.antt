use Rattle.std.proofs.Common.{arith}
use Rattle.std.proofs.lemmas.Grind.{common_steps}
use Rattle.std.proofs.Common.{◌+◌, ◌∙◌, ap}
use Rattle.cip_hydro.proofs.lemmas.Around.{surroundings_count}
use Rattle.cip_hydro.proofs.lemmas.Drawn.{bonds_join, edges_next}
use Rattle.cip_hydro.proofs.edges.push_bonds.Goals as goal

pub bond_edge-requires-clause-a : goal.bond_edge-requires-clause-a
bond_edge-requires-clause-a c =
    rw (c.requires.around, surroundings_count c.args.molecule.now, c.bonds-bond-items.ensures.value)
    (bonds_join _ _ c.bonds-bond-items.ensures.sound c.loop-bond.bond-index _
    (rw (← c.bonds-bond-items.ensures.value) c.loop-bond-test.true)).a

pub bond_edge-requires-clause-b : goal.bond_edge-requires-clause-b
bond_edge-requires-clause-b c =
    rw (c.requires.around, surroundings_count c.args.molecule.now, c.bonds-bond-items.ensures.value)
    (bonds_join _ _ c.bonds-bond-items.ensures.sound c.loop-bond.bond-index _
    (rw (← c.bonds-bond-items.ensures.value) c.loop-bond-test.true)).b

pub loop-bond-preserved : goal.loop-bond-preserved
loop-bond-preserved c = record {
  value = c.push_reserved.ensures.items
      ∙ edges_next _ _ _ _ _ _ _ c.bonds-bond-items.ensures.value c.requires.around
      (bonds_join _ _ c.bonds-bond-items.ensures.sound) c.loop-bond-test.true
      c.loop-bond.invariant.value c.bond_edge.ensures;
  count = c.push_reserved.ensures.len ∙ ap (λ n. n + 1) c.loop-bond.invariant.count;
  room = c.push_reserved.ensures.capacity ∙ c.loop-bond.invariant.room;
}

pub returns-clause-value : goal.returns-clause-value
returns-clause-value c = grind (arith, common_steps)
