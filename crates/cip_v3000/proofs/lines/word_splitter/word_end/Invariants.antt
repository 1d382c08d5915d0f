use Rattle.std.proofs.Common.{◌≡◌, ◌-◌, take, drop, length}
use Rattle.cip_v3000.specs.Words.{words_from, words_of}
use Rattle.cip_v3000.proofs.lines.word_splitter.word_end.Given as goal

abbrev pub invariant-loop-at : goal.invariant-loop-at
invariant-loop-at l = words_from l.within (take l.at l.text) (drop l.at l.text) ≡ words_of l.text

abbrev pub decreases-loop-at : goal.decreases-loop-at
decreases-loop-at l = length l.text - l.at
