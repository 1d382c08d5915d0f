use Rattle.cip_undefined.specs.Texts.{undefined_line}
use Rattle.cip_undefined.proofs.lemmas.Walked.{given_more}
use Rattle.cip_undefined.proofs.text.lines_of.Goals as goal

pub loop-unit-preserved : goal.loop-unit-preserved
loop-unit-preserved c =
    given_more undefined_line c.args.units.now c.loop-unit.unit-index c.unit-item.result c.loop-unit.text.items
    c.push_line.new.text.items _ c.loop-unit-test.true c.unit-item.is c.in_ok-push_line.ensures c.loop-unit.invariant
