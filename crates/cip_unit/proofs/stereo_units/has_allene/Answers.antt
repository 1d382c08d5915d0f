use Rattle.std.proofs.Common.{◌∙◌, sym}
use Rattle.cip_unit.proofs.lemmas.NoAllenes.{none_more, some_in}
use Rattle.cip_unit.proofs.stereo_units.has_allene.Goals as goal

pub loop-atom-preserved : goal.loop-atom-preserved
loop-atom-preserved c =
    none_more c.args.graph.now c.loop-atom.atom c.loop-atom.invariant
    (sym c.is_allene_middle.ensures ∙ c.if-is_allene_middle.false)

pub returns-then-is_allene_middle : goal.returns-then-is_allene_middle
returns-then-is_allene_middle c =
    sym (some_in c.args.graph.now c.args.atoms c.loop-atom.atom c.loop-atom-test.true
    (sym c.is_allene_middle.ensures ∙ c.if-is_allene_middle.true))
