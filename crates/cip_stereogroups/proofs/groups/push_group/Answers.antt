use Rattle.std.proofs.Common.{arith}
use Rattle.std.proofs.lemmas.Grind.{common_steps}
use Rattle.cip_stereogroups.proofs.groups.push_group.Goals as goal

pub returns-else-is_err-clause-names : goal.returns-else-is_err-clause-names
returns-else-is_err-clause-names c = grind (arith, common_steps)

pub returns-then-is_err-clause-names : goal.returns-then-is_err-clause-names
returns-then-is_err-clause-names c = grind (arith, common_steps)

pub returns-then-is_err-clause-items : goal.returns-then-is_err-clause-items
returns-then-is_err-clause-items c = grind (arith, common_steps)

pub returns-else-is_err-clause-items : goal.returns-else-is_err-clause-items
returns-else-is_err-clause-items c = grind (arith, common_steps)
