use Rattle.std.proofs.Common.{◌≡◌, length}
use Rattle.cip_words.specs.Choices.{first_given}
use Rattle.cip_words.proofs.option_values.first_given.Given as goal

abbrev pub invariant-loop-rest : goal.invariant-loop-rest
invariant-loop-rest l = first_given l.name l.rest ≡ first_given l.name l.words

abbrev pub decreases-loop-rest : goal.decreases-loop-rest
decreases-loop-rest l = length l.rest
