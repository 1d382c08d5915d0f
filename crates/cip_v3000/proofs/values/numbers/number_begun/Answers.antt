use Rattle.std.proofs.Common.{arith}
use Rattle.std.proofs.lemmas.Grind.{common_steps}
use Rattle.cip_v3000.proofs.lemmas.NumberWords.{number_ends}
use Rattle.cip_v3000.specs.Words.{words_of}
use Rattle.cip_v3000.proofs.values.numbers.number_begun.Goals as goal

pub loop-at-preserved : goal.loop-at-preserved
unfolding words_of
loop-at-preserved c = grind (arith, common_steps, number_ends)

pub returns : goal.returns
unfolding words_of
returns c = grind (arith, common_steps, number_ends)
