use Rattle.std.proofs.Common.{arith}
use Rattle.std.proofs.lemmas.Grind.{common_steps}
use Rattle.cip_v3000.proofs.lemmas.FirstWords.{plain_goes_on}
use Rattle.cip_v3000.specs.Words.{words_of}
use Rattle.cip_v3000.proofs.lines.word_splitter.plain_bytes.Goals as goal

pub loop-at-preserved : goal.loop-at-preserved
unfolding words_of
loop-at-preserved c = grind (arith, common_steps, plain_goes_on)
