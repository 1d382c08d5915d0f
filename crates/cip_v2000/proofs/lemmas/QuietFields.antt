-- Fields that state nothing.
use Rattle.std.proofs.Common.{◌≡◌, ◌≤◌, ◌==◌, ℕ, pos, List, [], ◌∷◌, false, None, Some, Option, refl, ◌∙◌, ap, arith, length, take, get_or}
use Rattle.std.proofs.lemmas.List.{drop_more}
use Rattle.cip_text.specs.Columns.{field}
use Rattle.cip_text.specs.Numbers.{integer_of}
use Rattle.cip_ctfile.specs.Fields.{signed_in}
use Rattle.cip_ctfile.specs.Usual.{trimmed}
use Rattle.cip_v2000.specs.AtomLine.{mass_from}
use Rattle.cip_v2000.specs.PropertyLines.{property_of}

-- a mass difference of 0
pub none_stated : (mass : Option ℕ) → mass_from mass (pos 0) ≡ 0
none_stated None = refl
none_stated (Some mass) = refl

zero_read : signed_in 3 4 (trimmed (32 ∷ 48 ∷ [])) ≡ Some (pos 0)
unfolding signed_in integer_of
zero_read = refl

pub no_difference : (line : List ℕ) → 36 ≤ length line → get_or line 34 0 ≡ 32 → get_or line 35 0 ≡ 48
    → signed_in 3 4 (field 35 36 line) ≡ Some (pos 0)
no_difference line within space nought =
    ap (λ text. signed_in 3 4 (trimmed (take 2 text))) (drop_more line 34 0 (omega (arith, within)))
    ∙ ap (λ back. signed_in 3 4 (trimmed (get_or line 34 0 ∷ take 1 back)))
    (drop_more line 35 0 (omega (arith, within)))
    ∙ rw (space, nought) zero_read

-- a line that doesn't begin with M states nothing
pub no_property : (line : List ℕ) → (get_or line 0 0 == 77) ≡ false → property_of line ≡ None
no_property [] other = refl
no_property (b ∷ bs) other = rw other refl
