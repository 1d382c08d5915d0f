use Rattle.std.proofs.Common.{◌++◌, ap, sym, arith}
use Rattle.cip_digraph.specs.units.Allenes.{axis_site, doubles, is_axis_unit}
use Rattle.cip_unit.specs.Sites.{units_at}
use Rattle.cip_unit.proofs.lemmas.Kept.{kept_each}
use Rattle.cip_unit.proofs.lemmas.Leads.{leads_on}
use Rattle.std.proofs.lemmas.Grind.{common_steps}
use Rattle.cip_unit.proofs.axes.push_axes_through.Goals as goal

pub loop-edge-init : goal.loop-edge-init
loop-edge-init c =
    ap (λ sites. c.args.units.now ++ units_at c.args.sketch.now.molecule.now sites)
    (sym (kept_each (axis_site c.args.sketch.now.graph.now c.args.a c.args.middle)
    (is_axis_unit c.args.sketch.now.graph.now c.args.a c.args.middle)
    (doubles c.args.sketch.now.graph.now c.args.middle)))

pub push_axis-requires-clause-b : goal.push_axis-requires-clause-b
push_axis-requires-clause-b c =
    rw c.other_end.ensures
    (leads_on c.args.sketch.now.graph.now c.requires.leads c.args.middle c.edges_at-edge-items.result.now
    c.loop-edge.edge-index _ c.edges_at-edge-items.ensures.value c.loop-edge-test.true c.if-edge-eq2.true)

pub loop-edge-preserved : goal.loop-edge-preserved
loop-edge-preserved c = grind (arith, common_steps)
