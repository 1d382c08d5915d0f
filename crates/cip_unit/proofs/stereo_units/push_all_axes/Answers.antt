use Rattle.cip_digraph.specs.units.Allenes.{axis_sites}
use Rattle.cip_unit.proofs.lemmas.Kept.{units_more}
use Rattle.std.proofs.Common.{sym, ◌∙◌}
use Rattle.cip_unit.proofs.lemmas.NoAllenes.{no_axes_more}
use Rattle.cip_unit.proofs.stereo_units.push_all_axes.Goals as goal

pub returns-then-not-has_allene : goal.returns-then-not-has_allene
returns-then-not-has_allene c =
    no_axes_more c.args.sketch.now.graph.now c.requires.leads c.args.atoms c.requires.atoms
    (sym c.has_allene.ensures ∙ c.if-not-has_allene.true) c.args.sketch.now.molecule.now c.args.units.now

pub loop-atom-preserved : goal.loop-atom-preserved
loop-atom-preserved c =
    units_more c.args.sketch.now.molecule.now
    (axis_sites c.args.sketch.now.graph.now) c.loop-atom.atom _ _ _ c.loop-atom.invariant c.in-Ok.ensures
