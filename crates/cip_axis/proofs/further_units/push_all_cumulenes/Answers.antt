use Rattle.cip_axis.specs.Further.{cumulenes_of}
use Rattle.cip_axis.proofs.lemmas.Chained.{units_more}
use Rattle.cip_axis.proofs.further_units.push_all_cumulenes.Goals as goal

pub loop-atom-preserved : goal.loop-atom-preserved
loop-atom-preserved c =
    let source = c.args.source.now in
    units_more (cumulenes_of source.molecule.now source.graph.now) c.loop-atom.atom _ _ _ c.loop-atom.invariant
    c.in-Ok.ensures
