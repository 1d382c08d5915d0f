use Rattle.std.proofs.Common.{◌++◌, ap, sym, arith, ◌∙◌, refl}
use Rattle.cip_digraph.specs.units.DoubleBonds.{bond_site, is_bond_unit}
use Rattle.cip_digraph.specs.graph.Graph.{edges_at}
use Rattle.cip_unit.specs.Sites.{units_at}
use Rattle.cip_unit.proofs.lemmas.Kept.{kept_each}
use Rattle.cip_unit.proofs.lemmas.Leads.{leads_on}
use Rattle.std.proofs.lemmas.Grind.{common_steps}
use Rattle.std.proofs.lemmas.List.{append-nil}
use Rattle.cip_unit.proofs.lemmas.FirstEnds.{none_begins}
use Rattle.cip_unit.proofs.bonds.push_bonds.Goals as goal

pub returns-then-not-can_begin : goal.returns-then-not-can_begin
returns-then-not-can_begin c =
    rw (
      none_begins c.args.sketch.now.graph.now c.args.sketch.now.positions.now c.args.a
          (sym c.can_begin.ensures ∙ c.if-not-can_begin.true),
      append-nil c.args.units.now,
    ) refl

pub loop-edge-init : goal.loop-edge-init
loop-edge-init c =
    ap (λ sites. c.args.units.now ++ units_at c.args.sketch.now.molecule.now sites)
    (sym (kept_each (bond_site c.args.sketch.now.graph.now c.args.a)
    (is_bond_unit c.args.sketch.now.graph.now c.args.sketch.now.positions.now c.args.a)
    (edges_at c.args.sketch.now.graph.now c.args.a)))

pub push_bond-requires-clause-leads : goal.push_bond-requires-clause-leads
push_bond-requires-clause-leads c = λ order.
    leads_on c.args.sketch.now.graph.now c.requires.leads c.args.a
    c.edges_at-edge-items.result.now c.loop-edge.edge-index _
    c.edges_at-edge-items.ensures.value c.loop-edge-test.true order

pub loop-edge-preserved : goal.loop-edge-preserved
loop-edge-preserved c = grind (arith, common_steps)

pub returns : goal.returns
returns c = grind (arith, common_steps)
