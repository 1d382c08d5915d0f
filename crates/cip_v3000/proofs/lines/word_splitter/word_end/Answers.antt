use Rattle.std.proofs.Common.{arith}
use Rattle.std.proofs.lemmas.Grind.{common_steps}
use Rattle.cip_v3000.proofs.lemmas.FirstWords.{begun_goes_on, begun_ends, begun_runs_out, cut_is_space}
use Rattle.cip_v3000.specs.Words.{words_of}
use Rattle.cip_v3000.proofs.lines.word_splitter.word_end.Goals as goal

pub loop-at-preserved : goal.loop-at-preserved
unfolding words_of
loop-at-preserved c = grind (arith, common_steps, begun_goes_on, begun_ends, begun_runs_out, cut_is_space)

pub returns-in-Plain-eq32-clause-cut : goal.returns-in-Plain-eq32-clause-cut
unfolding words_of
returns-in-Plain-eq32-clause-cut c = grind (arith, common_steps, begun_goes_on, begun_ends, begun_runs_out, cut_is_space)

pub returns-clause-cut : goal.returns-clause-cut
unfolding words_of
returns-clause-cut c = grind (arith, common_steps, begun_goes_on, begun_ends, begun_runs_out, cut_is_space)
