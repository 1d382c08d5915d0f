use Rattle.cip_unit.specs.Sites.{centre_sites}
use Rattle.cip_unit.proofs.lemmas.Kept.{units_more}
use Rattle.cip_unit.proofs.stereo_units.push_all_centres.Goals as goal

pub loop-atom-preserved : goal.loop-atom-preserved
loop-atom-preserved c =
    units_more c.args.sketch.now.molecule.now
    (centre_sites c.args.sketch.now.graph.now) c.loop-atom.atom _ _ _ c.loop-atom.invariant c.in-Ok.ensures
