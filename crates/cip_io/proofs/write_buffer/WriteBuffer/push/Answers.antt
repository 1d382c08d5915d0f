use Rattle.std.proofs.Common.{arith}
use Rattle.std.proofs.lemmas.Grind.{common_steps}
use Rattle.cip_io.proofs.lemmas.Growth.{all_taken, front_taken}
use Rattle.cip_io.proofs.write_buffer.WriteBuffer.push.Goals as goal

pub returns-in-Ok-2-clause-taken : goal.returns-in-Ok-2-clause-taken
returns-in-Ok-2-clause-taken g c = all_taken c.push_all.result _ _ _ c.args.self.now c.args.piece.now c.flush.new.self
    c.in-Ok-2.ensures.emptied c.in-Ok-2.ensures.whole c.push_all.ensures.whole

pub returns-in-Ok-2-clause-prefix : goal.returns-in-Ok-2-clause-prefix
returns-in-Ok-2-clause-prefix g c = front_taken c.push_all.result _ _ _ c.args.self.now c.args.piece.now
    c.in-Ok-2.ensures.whole c.push_all.ensures.prefix

pub returns-in-Err-clause-prefix : goal.returns-in-Err-clause-prefix
returns-in-Err-clause-prefix g c = grind (arith, common_steps)
