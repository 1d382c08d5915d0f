use Rattle.std.proofs.Common.{◌≡◌, length, map}
use Rattle.cip_words.specs.Choices.{are_name_value_pairs}
use Rattle.cip_words.proofs.option_values.are_name_value_pairs.Given as goal

abbrev pub invariant-loop-rest : goal.invariant-loop-rest
invariant-loop-rest l =
    are_name_value_pairs (map (λ choice. (choice.0.now, choice.1)) l.choices) l.rest
    ≡ are_name_value_pairs (map (λ choice. (choice.0.now, choice.1)) l.choices) l.words

abbrev pub decreases-loop-rest : goal.decreases-loop-rest
decreases-loop-rest l = length l.rest
