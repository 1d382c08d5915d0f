use Rattle.std.proofs.Common.{◌≡◌, drop, map}
use Rattle.cip_words.specs.Choices.{is_name}
use Rattle.cip_words.proofs.option_values.is_name.Given as goal

abbrev pub invariant-loop-choice : goal.invariant-loop-choice
invariant-loop-choice l =
    is_name (map (λ choice. (choice.0.now, choice.1)) (drop l.choice-index l.choices)) l.word
    ≡ is_name (map (λ choice. (choice.0.now, choice.1)) l.choices) l.word
