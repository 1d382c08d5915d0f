use Rattle.std.proofs.Common.{arith}
use Rattle.std.proofs.lemmas.Grind.{common_steps}
use Rattle.cip_text.proofs.lemmas.Positions.{first_position}
use Rattle.cip_v3000.specs.Words.{keyed}
use Rattle.cip_v3000.proofs.lines.word_splitter.key_and_value.Goals as goal

pub returns-in-Some : goal.returns-in-Some
unfolding keyed
returns-in-Some c = grind (arith, common_steps, first_position)
