-- The first line by the place of the first LF.
use Rattle.std.proofs.Common.{◌≡◌, ◌<◌, ◌+◌, ℕ, zero, suc, List, [], ◌∷◌, Bool, true, false, ◌==◌, refl, arith, length}
use Rattle.bstr.specs.Find.{Nowhere, Passes, is_byte}
use Rattle.cip_text.specs.Lines.{line_length}

-- no LF is before this place
abbrev NoneTo : List ℕ → ℕ → Type 0
NoneTo bytes place = Nowhere (Passes (is_byte 10) bytes) 0 place

others : (b : ℕ) (bs : List ℕ) (place : ℕ) → NoneTo (b ∷ bs) (suc place) → NoneTo bs place
others b bs place none k low high = none (suc k) (omega arith) (omega (arith, high))

to_byte : (b : ℕ) (bs : List ℕ) (place : ℕ) (k : Bool) → (b == 10) ≡ k → NoneTo (b ∷ bs) (suc place) →
    (NoneTo bs place → line_length bs ≡ place + 1) → line_length (b ∷ bs) ≡ suc place + 1
to_byte b bs place true e none more = absurd (none 0 (omega arith) (omega arith) e)
to_byte b bs place false e none more = rw e (omega (arith, more (others b bs place none)))

-- the first line ends after the first LF
pub length_to : (bytes : List ℕ) (place : ℕ) → place < length bytes → NoneTo bytes place →
    Passes (is_byte 10) bytes place → line_length bytes ≡ place + 1
length_to [] place few none here = absurd (omega (arith, few))
length_to (b ∷ bs) zero few none here = rw here refl
length_to (b ∷ bs) (suc place) few none here =
    to_byte b bs place (b == 10) refl none (λ others. length_to bs place (omega (arith, few)) others here)

without_byte : (b : ℕ) (bs : List ℕ) (k : Bool) → (b == 10) ≡ k → NoneTo (b ∷ bs) (length (b ∷ bs)) →
    (NoneTo bs (length bs) → line_length bs ≡ length bs) → line_length (b ∷ bs) ≡ length (b ∷ bs)
without_byte b bs true e none more = absurd (none 0 (omega arith) (omega arith) e)
without_byte b bs false e none more = rw e (omega (arith, more (others b bs (length bs) none)))

-- without one the first line is all
pub length_without : (bytes : List ℕ) → NoneTo bytes (length bytes) → line_length bytes ≡ length bytes
length_without [] none = refl
length_without (b ∷ bs) none = without_byte b bs (b == 10) refl none (length_without bs)
