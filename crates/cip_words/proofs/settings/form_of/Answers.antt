use Rattle.std.proofs.Common.{arith}
use Rattle.std.proofs.lemmas.Grind.{common_steps}
use Rattle.cip_words.proofs.settings.form_of.Goals as goal

pub returns-then-eq : goal.returns-then-eq
returns-then-eq c = grind (arith, common_steps)

pub returns : goal.returns
returns c = grind (arith, common_steps)

pub loop-form-preserved : goal.loop-form-preserved
loop-form-preserved c = grind (arith, common_steps)
