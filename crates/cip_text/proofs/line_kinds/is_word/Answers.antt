use Rattle.std.proofs.Common.{arith}
use Rattle.std.proofs.lemmas.Grind.{common_steps}
use Rattle.cip_text.proofs.line_kinds.is_word.Goals as goal

pub returns-then-not-starts_with_byte : goal.returns-then-not-starts_with_byte
returns-then-not-starts_with_byte c = grind (arith, common_steps)

pub loop-byte-preserved : goal.loop-byte-preserved
loop-byte-preserved c = grind (arith, common_steps)
