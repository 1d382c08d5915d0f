-- A number's digits after a text: the last one after those of its tenth.
use Rattle.std.proofs.Common.{◌≡◌, ◌<◌, ◌≤◌, ◌+◌, ◌/◌, ◌%◌, ◌^◌, ◌++◌, ◌∷◌, ◌∙◌, [], ℕ, List, ap, append_assoc, sym}
use Rattle.std.specs.Prelude.{decimal}
use Rattle.std.proofs.lemmas.Fmt.{decimal_digit, decimal_step}

pub one_digit : (text : List ℕ) (n : ℕ) → n < 10 → text ++ (48 + n) ∷ [] ≡ text ++ decimal n
one_digit text n lt = ap (λ ds. text ++ ds) (sym (decimal_digit n lt))

pub one_digit_more : (text : List ℕ) (n : ℕ) → 10 ≤ n → n < 2 ^ 64
    → (text ++ decimal (n / 10)) ++ (48 + n % 10) ∷ [] ≡ text ++ decimal n
one_digit_more text n le lt =
    append_assoc text (decimal (n / 10)) ((48 + n % 10) ∷ []) ∙ ap (λ ds. text ++ ds) (sym (decimal_step n le lt))
