-- Texts that are put one after the other.
use Rattle.std.proofs.Common.{◌≡◌, ◌++◌, ℕ, List, append_assoc, refl, ap, ◌∙◌}

pub two_joined : (a b c : List ℕ) → (a ++ b) ++ c ≡ a ++ (b ++ c)
two_joined a b c = append_assoc a b c

pub five_joined : (a b c d e : List ℕ) → (((a ++ b) ++ c) ++ d) ++ e ≡ a ++ (b ++ (c ++ (d ++ e)))
five_joined a b c d e =
    rw (
      append_assoc a b c,
      append_assoc a (b ++ c) d,
      append_assoc a ((b ++ c) ++ d) e,
      append_assoc b c d,
      append_assoc b (c ++ d) e,
      append_assoc c d e,
    ) refl

-- a body with its end, and what follows it
pub record_joined : (a b c d e f : List ℕ)
    → (((a ++ (b ++ c)) ++ d) ++ e) ++ f ≡ a ++ (b ++ (c ++ (d ++ (e ++ f))))
record_joined a b c d e f =
    five_joined a (b ++ c) d e f ∙ ap (λ rest. a ++ rest) (append_assoc b c (d ++ (e ++ f)))
