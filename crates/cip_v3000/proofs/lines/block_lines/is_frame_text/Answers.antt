use Rattle.std.proofs.Common.{arith}
use Rattle.std.proofs.lemmas.Grind.{common_steps}
use Rattle.cip_v3000.proofs.lemmas.FrameWords.{further_words, one_word, without_words}
use Rattle.cip_v3000.proofs.lines.block_lines.is_frame_text.Goals as goal

pub returns-in-Some-next_word-2 : goal.returns-in-Some-next_word-2
returns-in-Some-next_word-2 c = grind (arith, common_steps, further_words)

pub returns-in_default : goal.returns-in_default
returns-in_default c = grind (arith, common_steps, without_words)

pub returns-in_default-next_word : goal.returns-in_default-next_word
returns-in_default-next_word c = grind (arith, common_steps, one_word)
