-- Texts that grow at their end.
use Rattle.std.proofs.Common.{◌≡◌, ℕ, List, [], ◌++◌, ap, sym, ◌∙◌, append_assoc, append-nil}

-- a line more at the end of those so far
pub longer : (old so_far line text now : List ℕ) → text ≡ old ++ so_far →
    now ≡ text ++ line → now ≡ old ++ (so_far ++ line)
longer old so_far line text now is_so_far added =
    added ∙ ap (λ before. before ++ line) is_so_far ∙ append_assoc old so_far line

-- nothing is left
pub none_left : (text rest all : List ℕ) → rest ≡ [] → text ++ rest ≡ all → text ≡ all
none_left text rest all none whole = sym (append-nil text) ∙ ap (λ xs. text ++ xs) (sym none) ∙ whole
