use Rattle.std.proofs.Common.{arith}
use Rattle.std.proofs.lemmas.Grind.{common_steps}
use Rattle.cip_orient.proofs.marks.has_mark.Goals as goal

pub loop-mark-preserved : goal.loop-mark-preserved
loop-mark-preserved c = grind (arith, common_steps)

pub returns-then-not-matches : goal.returns-then-not-matches
returns-then-not-matches c = grind (arith, common_steps)

pub returns : goal.returns
returns c = grind (arith, common_steps)
