-- What slices of bytes hold, from one of them on.
use Rattle.std.proofs.Common.{◌≡◌, ◌<◌, ◌≤◌, ◌+◌, ℕ, zero, suc, List, [], ◌∷◌, length, drop, get_or, Bor, Bool, ◌||◌, refl, ap, arith}
use Rattle.std.specs.List.{list_any}
use Rattle.cip_text.specs.Slices.{texts}

pub drop_texts : (lines : List (Bor (List ℕ))) (place : ℕ) (d : Bor (List ℕ)) → place < length lines
    → drop place (texts lines) ≡ (get_or lines place d).now ∷ drop (place + 1) (texts lines)
drop_texts [] place d within = absurd (omega (arith, within))
drop_texts (line ∷ lines) zero d within = refl
drop_texts (line ∷ lines) (suc place) d within =
    let next : suc place + 1 ≡ suc (place + 1) = omega arith in
    rw next (drop_texts lines place d (omega (arith, within)))

pub drop_texts_past : (lines : List (Bor (List ℕ))) (place : ℕ) → length lines ≤ place → drop place (texts lines) ≡ []
drop_texts_past [] zero past = refl
drop_texts_past [] (suc place) past = refl
drop_texts_past (line ∷ lines) zero past = absurd (omega (arith, past))
drop_texts_past (line ∷ lines) (suc place) past = drop_texts_past lines place (omega (arith, past))

pub any_text : (test : List ℕ → Bool) (lines : List (Bor (List ℕ)))
    → list_any test (texts lines) ≡ list_any (λ line. test line.now) lines
any_text test [] = refl
any_text test (line ∷ lines) = ap (λ rest. test line.now || rest) (any_text test lines)
