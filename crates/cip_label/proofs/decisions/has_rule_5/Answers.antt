use Rattle.std.proofs.Common.{arith}
use Rattle.std.proofs.lemmas.Grind.{common_steps}
use Rattle.cip_label.proofs.decisions.has_rule_5.Goals as goal

pub loop-decision-preserved : goal.loop-decision-preserved
loop-decision-preserved c = grind (arith, common_steps)

pub returns-then-is_by_rule_5 : goal.returns-then-is_by_rule_5
returns-then-is_by_rule_5 c = grind (arith, common_steps)

pub returns : goal.returns
returns c = grind (arith, common_steps)
