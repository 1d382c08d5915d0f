use Rattle.std.proofs.Common.{◌≡◌, ◌++◌, length}
use Rattle.cip_text.specs.Slices.{texts}
use Rattle.cip_v3000.specs.Words.{words_of}
use Rattle.cip_v3000.proofs.lines.word_splitter.words.Given as goal

abbrev pub invariant-loop-word : goal.invariant-loop-word
invariant-loop-word l = texts l.words.items ++ words_of l.rest ≡ words_of l.text

abbrev pub decreases-loop-word : goal.decreases-loop-word
decreases-loop-word l = length l.rest
