use Rattle.std.proofs.Common.{◌≡◌, ◌∙◌, ◌++◌, ap, arith, eq-eqb, length, sym}
use Rattle.std.proofs.lemmas.Grind.{common_steps}
use Rattle.cip_digraph.specs.graph.Graph.{edges_at}
use Rattle.cip_unit.proofs.lemmas.Leads.{leads_on}
use Rattle.cip_axis.specs.Listing.{cumulenes_along}
use Rattle.cip_axis.proofs.lemmas.Chained.{along_is}
use Rattle.cip_axis.proofs.cumulenes.push_cumulenes.Goals as goal

pub push_over-requires-clause-next : goal.push_over-requires-clause-next
push_over-requires-clause-next c =
    let source = c.args.source.now in
    rw c.other_end.ensures
    (leads_on source.graph.now c.requires.source.leads c.args.a c.edges_at-edges.result.now c.loop-edge.edge-index _
    c.edges_at-edges.ensures.value c.loop-edge-test.true c.if-edge-eq2.true)

pub returns-after-loop-edge : goal.returns-after-loop-edge
returns-after-loop-edge c =
    let source = c.args.source.now in
    let along : c.loop-edge.units ≡ c.args.units.now ++ cumulenes_along source.molecule.now source.graph.now c.args.a (edges_at source.graph.now c.args.a) = grind (arith, common_steps) in
    along
    ∙ ap (λ more. c.args.units.now ++ more)
    (along_is source.molecule.now source.graph.now c.args.a
    (eq-eqb (length (edges_at source.graph.now c.args.a)) 3
    (ap length (sym c.edges_at-edges.ensures.value) ∙ c.if-edges-eq3.true)))

pub loop-edge-preserved : goal.loop-edge-preserved
loop-edge-preserved c = grind (arith, common_steps)
