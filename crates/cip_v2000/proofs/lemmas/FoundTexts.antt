-- A text of a list of texts, by its place.
use Rattle.std.proofs.Common.{◌≡◌, ◌<◌, ◌≤◌, ℕ, zero, suc, List, [], ◌∷◌, Some, None, Bor, refl, sym, ap, arith, length, get_or}
use Rattle.std.specs.Prelude.{slice_get}
use Rattle.cip_text.specs.Slices.{texts}

pub text_found : (lines : List (Bor (List ℕ))) (place : ℕ) (line : Bor (List ℕ)) → place < length lines
    → line ≡ get_or lines place line → slice_get (texts lines) place ≡ Some line.now
text_found [] place line within is = absurd (omega (arith, within))
text_found (first ∷ lines) zero line within is = ap (λ (l : Bor (List ℕ)). Some l.now) (sym is)
text_found (first ∷ lines) (suc place) line within is = text_found lines place line (omega (arith, within)) is

pub text_missing : (lines : List (Bor (List ℕ))) (place : ℕ) → length lines ≤ place
    → slice_get (texts lines) place ≡ None
text_missing [] place past = refl
text_missing (first ∷ lines) zero past = absurd (omega (arith, past))
text_missing (first ∷ lines) (suc place) past = text_missing lines place (omega (arith, past))
