-- Digits after spaces and a minus at most, with a point and four digits or more after them, are the decimal that they
-- spell.
use Rattle.std.proofs.Common.{◌≡◌, ◌≤◌, ◌<◌, ◌+◌, ◌-◌, ◌*◌, ◌++◌, ℕ, ℤ, zero, suc, List, [], ◌∷◌, Bool, true, false, ◌==◌, nat_lt, Ok, Some, refl, sym, ◌∙◌, ap, arith, length, take, drop, get_or, slice_index, append_assoc}
use Rattle.std.specs.List.{list_all}
use Rattle.std.proofs.lemmas.Bool.{and_parts, and_right, lt-ltb}
use Rattle.std.proofs.lemmas.Bool.Decides.{nat_tests}
use Rattle.std.proofs.lemmas.List.Folds.{list_all-append}
use Rattle.std.proofs.lemmas.List.{take_at, take-take, drop_at, drop-take, get_or_at, get_or-take, length-append, length-drop, length-take-le, length_push, drop_more, take-append-drop}
use Rattle.cip_text.specs.Columns.{without_spaces_before, trim_end_spaces}
use Rattle.cip_text.specs.Lines.{starts_with_byte}
use Rattle.cip_text.specs.Numbers.{is_digit, parts, decimal, is_negative, without_sign, signed, decimal4_of}
use Rattle.cip_text.proofs.lemmas.Decimals.{cut_here}
use Rattle.cip_ctfile.specs.Usual.{trimmed, unsigned, Spells, ArePlaces, is_high, IsWholePart, IsDecimal, IsSizeBegun, IsDecimalBegun}
use Rattle.cip_ctfile.proofs.lemmas.UsualNumbers.{digits_behind, some_length}

-- a point comes after what is before it

point_byte : (b : ℕ) (bs rest : List ℕ) (k : Bool) → (b == 32) ≡ k
    → without_spaces_before (bs ++ 46 ∷ rest) ≡ without_spaces_before bs ++ 46 ∷ rest
    → without_spaces_before ((b ∷ bs) ++ 46 ∷ rest) ≡ without_spaces_before (b ∷ bs) ++ 46 ∷ rest
point_byte b bs rest true e more = rw e more
point_byte b bs rest false e more = rw e refl

spaces_before : (front rest : List ℕ)
    → without_spaces_before (front ++ 46 ∷ rest) ≡ without_spaces_before front ++ 46 ∷ rest
spaces_before [] rest = refl
spaces_before (b ∷ bs) rest = point_byte b bs rest (b == 32) refl (spaces_before bs rest)

-- a sign at most, and digits

begins_same : (c : ℕ) (front rest : List ℕ) → 0 < length front
    → starts_with_byte c (front ++ rest) ≡ starts_with_byte c front
begins_same c [] rest some = absurd (omega (arith, some))
begins_same c (b ∷ bs) rest some = rw (
  lt-ltb 0 (suc (length (bs ++ rest))) (omega arith),
  lt-ltb 0 (suc (length bs)) (omega arith),
) refl

no_sign : (digits : List ℕ) (c : ℕ) → list_all is_digit digits ≡ true → c < 48 → starts_with_byte c digits ≡ false
no_sign [] c h low = refl
no_sign (b ∷ bs) c h low =
    let first = (and_parts (is_digit b) (list_all is_digit bs) h).0 in
    and_right (nat_lt 0 (suc (length bs))) (b == c) (grind (arith, nat_tests))

without_minus : (front rest : List ℕ) (k : Bool) → starts_with_byte 45 front ≡ k → 0 < length front
    → list_all is_digit (unsigned front) ≡ true → without_sign (front ++ rest) ≡ unsigned front ++ rest
without_minus [] rest k e some digits = absurd (omega (arith, some))
without_minus (b ∷ bs) rest true e some digits = rw (begins_same 45 (b ∷ bs) rest some, e) refl
without_minus (b ∷ bs) rest false e some digits =
    let none = rw e at digits in
    rw (
      begins_same 45 (b ∷ bs) rest some,
      e,
      begins_same 43 (b ∷ bs) rest some,
      no_sign (b ∷ bs) 43 none (omega arith),
    ) refl

-- the decimal

cut : (digits rest : List ℕ) → list_all is_digit digits ≡ true → decimal (digits ++ 46 ∷ rest) ≡ parts digits rest
cut digits rest h =
    let text = digits ++ 46 ∷ rest in
    let front : take (length digits) text ≡ digits = take_at digits (46 ∷ rest) (length digits) refl in
    let behind : drop (length digits + 1) text ≡ rest =
    ap (drop (length digits + 1)) (sym (append_assoc digits (46 ∷ []) rest))
    ∙ drop_at (digits ++ 46 ∷ []) rest (length digits + 1) (length_push digits 46) in
    cut_here text (length digits) (omega (arith, length-append digits (46 ∷ rest)))
    (ap (list_all is_digit) front ∙ h) (get_or_at digits 46 rest 0 (length digits) refl)
    ∙ ap (λ before. parts before (drop (length digits + 1) text)) front ∙ ap (parts digits) behind

parts_are : (before behind : List ℕ) (whole places : ℕ) → Spells before whole → ArePlaces behind places
    → parts before behind ≡ Some (10000 * whole + places)
parts_are before behind whole places w p =
    rw (w.digits, p.digits, lt-ltb 0 (length before + length behind) (omega (arith, w.some)), w.value, p.value) refl

abbrev shown : List ℕ → List ℕ → List ℕ
shown front rest = front ++ 46 ∷ rest

shown_alone : (front rest : List ℕ) → list_all is_digit rest ≡ true → 0 < length rest
    → trimmed (shown front rest) ≡ shown (without_spaces_before front) rest
shown_alone front rest h some =
    let bare = without_spaces_before front in
    ap trim_end_spaces (spaces_before front rest ∙ sym (append_assoc bare (46 ∷ []) rest))
    ∙ digits_behind (bare ++ 46 ∷ []) rest h some ∙ append_assoc bare (46 ∷ []) rest

decimal_read : (front rest : List ℕ) (whole places : ℕ) → Spells (unsigned front) whole → ArePlaces rest places
    → decimal4_of (shown front rest) ≡ signed 500000000 (starts_with_byte 45 front) (Some (10000 * whole + places))
unfolding decimal4_of
decimal_read [] rest whole places w p = absurd (omega (arith, w.some))
decimal_read (b ∷ bs) rest whole places w p =
    let some : 0 < length (b ∷ bs) = omega arith in
    rw (some_length (bs ++ 46 ∷ rest))
    (ap (λ text. signed 500000000 (is_negative (shown (b ∷ bs) rest)) (decimal text))
    (without_minus (b ∷ bs) (46 ∷ rest) (starts_with_byte 45 (b ∷ bs)) refl some w.digits)
    ∙ ap (λ sign. signed 500000000 sign (decimal (shown (unsigned (b ∷ bs)) rest)))
    (begins_same 45 (b ∷ bs) (46 ∷ rest) some)
    ∙ ap (signed 500000000 (starts_with_byte 45 (b ∷ bs)))
    (cut (unsigned (b ∷ bs)) rest w.digits ∙ parts_are (unsigned (b ∷ bs)) rest whole places w p))

pub usual_read : (columns : List ℕ) (whole places : ℕ) → length columns ≡ 10 → get_or columns 5 0 ≡ 46
    → Spells (unsigned (without_spaces_before (take 5 columns))) whole → ArePlaces (drop 6 columns) places
    → decimal4_of (trimmed columns)
    ≡ signed 500000000 (starts_with_byte 45 (without_spaces_before (take 5 columns))) (Some (10000 * whole + places))
usual_read columns whole places wide point w p =
    let split : columns ≡ shown (take 5 columns) (drop 6 columns) =
    sym (take-append-drop 5 columns)
    ∙ ap (λ back. take 5 columns ++ back)
    (drop_more columns 5 0 (omega (arith, wide)) ∙ ap (λ b. b ∷ drop 6 columns) point) in
    ap (λ text. decimal4_of (trimmed text)) split
    ∙ ap decimal4_of (shown_alone (take 5 columns) (drop 6 columns) p.digits p.some)
    ∙ decimal_read (without_spaces_before (take 5 columns)) (drop 6 columns) whole places w p

-- words: four digits or more after the point

pub places_more : (text : List ℕ) (number : ℕ) → 4 ≤ length text → list_all is_digit (drop 4 text) ≡ true
    → ArePlaces (take 4 text) number → ArePlaces text number
places_more [] number wide rest is = absurd (omega (arith, wide))
places_more (a ∷ []) number wide rest is = absurd (omega (arith, wide))
places_more (a ∷ b ∷ []) number wide rest is = absurd (omega (arith, wide))
places_more (a ∷ b ∷ c ∷ []) number wide rest is = absurd (omega (arith, wide))
places_more (a ∷ b ∷ c ∷ d ∷ more) number wide rest is = record {
  digits = list_all-append is_digit (a ∷ b ∷ c ∷ d ∷ []) more ∙ rw (is.digits, rest) refl;
  some = omega arith;
  value = is.value;
  few = is.few;
}

first_of_front : (text : List ℕ) (place : ℕ) → list_all is_digit (take place text) ≡ true → 0 < length (take place text)
    → is_digit (slice_index text 0) ≡ true
first_of_front [] zero digits some = absurd (omega (arith, some))
first_of_front [] (suc place) digits some = absurd (omega (arith, some))
first_of_front (b ∷ bs) zero digits some = absurd (omega (arith, some))
first_of_front (b ∷ bs) (suc place) digits some = (and_parts (is_digit b) (list_all is_digit (take place bs)) digits).0

pub parts_read : (text : List ℕ) (whole point places : ℕ) → IsWholePart text (whole, point)
    → ArePlaces (drop (point + 1) text) places → IsDecimal text (10000 * whole + places)
parts_read text whole point places w p = record {
  some = omega (arith, w.within);
  begun = first_of_front text point w.spells.digits w.spells.some;
  spelt = cut_here text point w.within w.spells.digits w.point
      ∙ parts_are (take point text) (drop (point + 1) text) whole places w.spells p;
}

no_plus : (word : List ℕ) (k : Bool) → starts_with_byte 45 word ≡ k → is_digit (slice_index (unsigned word) 0) ≡ true
    → without_sign word ≡ unsigned word
no_plus word true e digit = rw e refl
no_plus word false e digit =
    let first : is_digit (slice_index word 0) ≡ true = rw e at digit in
    let other : (slice_index word 0 == 43) ≡ false = grind (arith, nat_tests) in
    rw (e, and_right (nat_lt 0 (length word)) (slice_index word 0 == 43) other) refl

pub word_read : (word : List ℕ) (size : ℕ) → IsDecimal (unsigned word) size
    → decimal4_of word ≡ signed 500000000 (starts_with_byte 45 word) (Some size)
unfolding decimal4_of
word_read [] size is = absurd (omega (arith, is.some))
word_read (b ∷ bs) size is =
    rw (some_length bs) (ap (signed 500000000 (starts_with_byte 45 (b ∷ bs)))
    (ap decimal (no_plus (b ∷ bs) (starts_with_byte 45 (b ∷ bs)) refl is.begun) ∙ is.spelt))

-- words that begin a text

high : (text : List ℕ) → list_all is_digit text ≡ true → list_all is_high text ≡ true
high [] h = refl
high (b ∷ bs) h =
    let each = and_parts (is_digit b) (list_all is_digit bs) h in
    let first : is_high b ≡ true = let digit = each.0 in grind (arith, nat_tests, digit) in
    rw (first, high bs each.1) refl

-- digits after the first four
places_front : (text : List ℕ) (number more : ℕ) → ArePlaces (take 4 text) number
    → list_all is_digit (take more (drop 4 text)) ≡ true → more ≤ length text - 4 → 4 ≤ length text
    → ArePlaces (take (4 + more) text) number
places_front text number more is further few wide =
    let long : length (take (4 + more) text) ≡ 4 + more = length-take-le (4 + more) text (omega (arith, few, wide)) in
    places_more (take (4 + more) text) number (omega (arith, long))
    (ap (list_all is_digit) (drop-take 4 more text) ∙ further)
    (rw (take-take 4 (4 + more) text (omega arith)) is)

whole_front : (text : List ℕ) (whole point end : ℕ) → point < end → end ≤ length text
    → IsWholePart text (whole, point) → IsWholePart (take end text) (whole, point)
whole_front text whole point end before within is = record {
  within = omega (arith, length-take-le end text within, before);
  point = get_or-take end text point 0 before ∙ is.point;
  spells = rw (take-take point end text (omega (arith, before))) is.spells;
}

-- all of its bytes are high: digits, the point, digits
high_front : (text : List ℕ) (whole point places : ℕ) → IsWholePart text (whole, point)
    → ArePlaces (drop (point + 1) text) places → list_all is_high text ≡ true
high_front text whole point places w p =
    let split : text ≡ take point text ++ 46 ∷ drop (point + 1) text =
    sym (take-append-drop point text)
    ∙ ap (λ back. take point text ++ back)
    (drop_more text point 0 w.within ∙ ap (λ b. b ∷ drop (point + 1) text) w.point) in
    ap (list_all is_high) split ∙ list_all-append is_high (take point text) (46 ∷ drop (point + 1) text)
    ∙ rw (high (take point text) w.spells.digits, high (drop (point + 1) text) p.digits) refl

pub size_front : (text : List ℕ) (whole point places more : ℕ) → IsWholePart text (whole, point)
    → 4 ≤ length (drop (point + 1) text) → ArePlaces (take 4 (drop (point + 1) text)) places
    → list_all is_digit (take more (drop 4 (drop (point + 1) text))) ≡ true
    → more ≤ length (drop 4 (drop (point + 1) text))
    → (point + 5 + more < length text → slice_index text (point + 5 + more) ≡ 32)
    → IsSizeBegun text (10000 * whole + places, point + 5 + more)
size_front text whole point places more w wide p further few space =
    let behind = drop (point + 1) text in
    let rest : length (drop 4 behind) ≡ length behind - 4 = length-drop 4 behind in
    let left : length behind ≡ length text - (point + 1) = length-drop (point + 1) text in
    let sum : point + 5 + more ≡ (point + 1) + (4 + more) = omega arith in
    let within : point + 5 + more ≤ length text = omega (arith, rest, left, few, wide, w.within) in
    let front = whole_front text whole point (point + 5 + more) (omega arith) within w in
    let digits = places_front behind places more p further (omega (arith, rest, few)) wide in
    let back : drop (point + 1) (take (point + 5 + more) text) ≡ take (4 + more) behind =
    ap (λ n. drop (point + 1) (take n text)) sum ∙ drop-take (point + 1) (4 + more) text in
    let ends : ArePlaces (drop (point + 1) (take (point + 5 + more) text)) places = rw back digits in
    record {
      decimal = parts_read (take (point + 5 + more) text) whole point places front ends;
      plain = high_front (take (point + 5 + more) text) whole point places front ends;
      within = within;
      space = space;
    }

begins_front : (end b : ℕ) (bs : List ℕ) → 0 < end → starts_with_byte 45 (take end (b ∷ bs)) ≡ starts_with_byte 45 (b ∷ bs)
begins_front zero b bs some = absurd (omega (arith, some))
begins_front (suc n) b bs some = rw (
  lt-ltb 0 (suc (length (take n bs))) (omega arith),
  lt-ltb 0 (suc (length bs)) (omega arith),
) refl

by_minus : (b : ℕ) (bs : List ℕ) (size end : ℕ) (number : ℤ) (k : Bool) → starts_with_byte 45 (b ∷ bs) ≡ k
    → IsSizeBegun (unsigned (b ∷ bs)) (size, end) → signed 500000000 (starts_with_byte 45 (b ∷ bs)) (Some size) ≡ Ok number
    → IsDecimalBegun (b ∷ bs) (number, suc (length bs) - length (unsigned (b ∷ bs)) + end)
by_minus b bs size end number true e is sign =
    let size_is = rw e at is in
    let minus : b ≡ 45 = grind (arith, nat_tests, e) in
    let place : suc (length bs) - length bs + end ≡ suc end = omega arith in
    let word = take (suc end) (b ∷ bs) in
    let same : starts_with_byte 45 word ≡ true = begins_front (suc end) b bs (omega arith) ∙ e in
    rw (e, place) (record {
      decimal = word_read word size (rw same size_is.decimal) ∙ rw same (rw e at sign);
      plain = rw (minus, size_is.plain) refl;
      some = omega arith;
      within = omega (arith, size_is.within);
      space = λ more. size_is.space (omega (arith, more));
    })
by_minus b bs size end number false e is sign =
    let size_is = rw e at is in
    let place : suc (length bs) - suc (length bs) + end ≡ end = omega arith in
    let some : 0 < end = omega (arith, size_is.decimal.some, length-take-le end (b ∷ bs) size_is.within) in
    let same : starts_with_byte 45 (take end (b ∷ bs)) ≡ false = begins_front end b bs some ∙ e in
    rw (e, place) (record {
      decimal = word_read (take end (b ∷ bs)) size (rw same size_is.decimal) ∙ rw same (rw e at sign);
      plain = size_is.plain;
      some = some;
      within = size_is.within;
      space = size_is.space;
    })

pub decimal_front : (text : List ℕ) (size end : ℕ) (number : ℤ) → IsSizeBegun (unsigned text) (size, end)
    → signed 500000000 (starts_with_byte 45 text) (Some size) ≡ Ok number
    → IsDecimalBegun text (number, length text - length (unsigned text) + end)
decimal_front [] size end number is sign = absurd (omega (arith, is.decimal.some, is.within, length-take-le {A = ℕ} end [] is.within))
decimal_front (b ∷ bs) size end number is sign =
    by_minus b bs size end number (starts_with_byte 45 (b ∷ bs)) refl is sign
