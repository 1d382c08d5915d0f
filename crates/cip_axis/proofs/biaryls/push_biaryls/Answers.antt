use Rattle.std.proofs.Common.{◌++◌, ap, sym, arith}
use Rattle.cip_digraph.specs.graph.Graph.{edges_at, other_end}
use Rattle.cip_unit.proofs.lemmas.Kept.{kept_each}
use Rattle.cip_axis.specs.Biaryls.{is_biaryl}
use Rattle.cip_axis.specs.Further.{biaryl_unit}
use Rattle.std.proofs.lemmas.Grind.{common_steps}
use Rattle.cip_axis.proofs.biaryls.push_biaryls.Goals as goal

pub loop-edge-init : goal.loop-edge-init
loop-edge-init c =
    let source = c.args.source.now in
    ap (λ more. c.args.units.now ++ more)
    (sym
    (kept_each (λ edge. biaryl_unit source.molecule.now source.graph.now c.args.a (other_end c.args.a edge))
    (is_biaryl source.graph.now source.positions.now c.args.a) (edges_at source.graph.now c.args.a)))

pub loop-edge-preserved : goal.loop-edge-preserved
loop-edge-preserved c = grind (arith, common_steps)

pub returns : goal.returns
returns c = grind (arith, common_steps)
