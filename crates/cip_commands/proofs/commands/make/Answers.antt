use Rattle.std.proofs.Common.{arith}
use Rattle.std.proofs.lemmas.Grind.{common_steps}
use Rattle.cip_commands.proofs.lemmas.Ended.{making_broke_off}
use Rattle.cip_commands.proofs.commands.make.Goals as goal

pub returns-in-Err : goal.returns-in-Err
returns-in-Err g c = grind (arith, common_steps)

pub returns-in-Err-WriteFault : goal.returns-in-Err-WriteFault
returns-in-Err-WriteFault g c =
    making_broke_off _ _ _ _ c.in-Err-WriteFault.field-0 c.in-Err-WriteFault.field-0-is
    c.in-Err-WriteFault.ensures.made c.in-Err-WriteFault.ensures.fault

pub returns-in-Ok : goal.returns-in-Ok
returns-in-Ok g c = grind (arith, common_steps)
