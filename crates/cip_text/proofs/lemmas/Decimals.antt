-- Where a decimal is cut at its point, by the digits that are before a place.
use Rattle.std.proofs.Common.{◌≡◌, ◌<◌, ◌+◌, ℕ, zero, suc, List, [], ◌∷◌, Bool, true, false, ◌==◌, ◌&&◌, nat_lt, None, ◌∙◌, refl, arith, length, take, drop, slice_index}
use Rattle.std.specs.List.{list_all, position_or_len}
use Rattle.std.proofs.lemmas.Bool.{and_parts}
use Rattle.std.proofs.lemmas.List.Folds.{list_all_at}
use Rattle.cip_text.specs.Numbers.{is_digit, is_point, decimal, parts}
use Rattle.cip_text.proofs.lemmas.Positions.{not_below}

no_point : (b : ℕ) → is_digit b ≡ true → (b == 46) ≡ false
no_point b h = grind (arith, h)

point_here : (text : List ℕ) (place : ℕ) → place < length text → list_all is_digit (take place text) ≡ true
    → slice_index text place ≡ 46 → position_or_len is_point text ≡ place
point_here [] place few digits here = absurd (omega (arith, few))
point_here (b ∷ bs) zero few digits here = rw here refl
point_here (b ∷ bs) (suc place) few digits here =
    let each = and_parts (is_digit b) (list_all is_digit (take place bs)) digits in
    rw (no_point b each.0) (omega (arith, point_here bs place (omega (arith, few)) each.1 here))

-- a decimal is cut at the point after its digits
pub cut_here : (text : List ℕ) (place : ℕ) → place < length text → list_all is_digit (take place text) ≡ true
    → slice_index text place ≡ 46 → decimal text ≡ parts (take place text) (drop (place + 1) text)
cut_here text place few digits here =
    let within : nat_lt place (length text) ≡ true = grind (arith, few) in
    rw (point_here text place few digits here, within) refl

point_nowhere : (text : List ℕ) → list_all is_digit text ≡ true → position_or_len is_point text ≡ length text
point_nowhere [] digits = refl
point_nowhere (b ∷ bs) digits =
    let each = and_parts (is_digit b) (list_all is_digit bs) digits in
    rw (no_point b each.0) (omega (arith, point_nowhere bs each.1))

-- digits alone are not cut
pub uncut : (text : List ℕ) → list_all is_digit text ≡ true → decimal text ≡ parts text []
uncut text digits = rw (point_nowhere text digits, not_below (length text)) refl

first_digit : (b : ℕ) (bs : List ℕ) (n : ℕ)
    → list_all is_digit (take (1 + n) (b ∷ bs)) ≡ (is_digit b && list_all is_digit (take n bs))
first_digit b bs n =
    let one : 1 + n ≡ suc n = omega arith in
    rw one refl

other_before : (text : List ℕ) (place : ℕ) → place < length text → list_all is_digit (take place text) ≡ true
    → is_digit (slice_index text place) ≡ false → (slice_index text place == 46) ≡ false →
    list_all is_digit (take (position_or_len is_point text) text) ≡ false
other_before [] place few digits other plain = absurd (omega (arith, few))
other_before (b ∷ bs) zero few digits other plain = rw plain (first_digit b bs (position_or_len is_point bs) ∙ rw other refl)
other_before (b ∷ bs) (suc place) few digits other plain =
    let each = and_parts (is_digit b) (list_all is_digit (take place bs)) digits in
    rw (no_point b each.0) (first_digit b bs (position_or_len is_point bs)
    ∙ rw each.0 (other_before bs place (omega (arith, few)) each.1 other plain))

none_by : (text : List ℕ) (k : Bool) → nat_lt (position_or_len is_point text) (length text) ≡ k
    → list_all is_digit text ≡ false → list_all is_digit (take (position_or_len is_point text) text) ≡ false →
    decimal text ≡ None
none_by text true e whole before = rw (e, before) refl
none_by text false e whole before = rw (e, whole) refl

-- where neither a digit nor a point follows digits there is no decimal
pub no_number : (text : List ℕ) (place : ℕ) → place < length text → list_all is_digit (take place text) ≡ true
    → is_digit (slice_index text place) ≡ false → (slice_index text place == 46) ≡ false → decimal text ≡ None
no_number text place few digits other plain =
    none_by text (nat_lt (position_or_len is_point text) (length text)) refl
    (list_all_at is_digit text place 0 few other) (other_before text place few digits other plain)
