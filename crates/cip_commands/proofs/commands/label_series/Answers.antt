use Rattle.std.proofs.Common.{arith}
use Rattle.std.proofs.lemmas.Grind.{common_steps}
use Rattle.cip_commands.proofs.lemmas.Ended.{trying_broke_off}
use Rattle.cip_commands.proofs.commands.label_series.Goals as goal

pub returns-in-Err : goal.returns-in-Err
returns-in-Err g c = grind (arith, common_steps)

pub returns-in-Err-WriteFault : goal.returns-in-Err-WriteFault
returns-in-Err-WriteFault g c =
    trying_broke_off _ _ _ c.in-Err-WriteFault.field-0 c.in-Err-WriteFault.field-0-is
    c.in-Err-WriteFault.ensures.summed c.in-Err-WriteFault.ensures.fault

pub returns-in-Ok-true : goal.returns-in-Ok-true
returns-in-Ok-true g c = grind (arith, common_steps)

pub returns-in-Ok-false : goal.returns-in-Ok-false
returns-in-Ok-false g c = grind (arith, common_steps)
