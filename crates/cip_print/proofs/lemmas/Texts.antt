-- Texts that grow at their end.
use Rattle.std.proofs.Common.{◌≡◌, ℕ, List, ◌++◌, ap, ◌∙◌, append_assoc}

-- a part more, and one less after it
pub moved : (text part rest now all : List ℕ) → now ≡ text ++ part → text ++ (part ++ rest) ≡ all → now ++ rest ≡ all
moved text part rest now all added whole =
    ap (λ before. before ++ rest) added ∙ append_assoc text part rest ∙ whole

-- two parts, one after the other
pub joined : (text part rest middle now : List ℕ) → middle ≡ text ++ part → now ≡ middle ++ rest
    → now ≡ text ++ (part ++ rest)
joined text part rest middle now added more =
    more ∙ ap (λ before. before ++ rest) added ∙ append_assoc text part rest
