-- Numbers that are written are read again.
use Rattle.std.proofs.Common.{◌≡◌, ◌≤◌, ◌<◌, ◌+◌, ◌-◌, ◌*◌, ◌/◌, ◌%◌, ◌^◌, ◌++◌, ℕ, zero, suc, ℤ, pos, negsuc, List, [], ◌∷◌, Bool, true, false, ◌==◌, nat_lt, nat_le, Ok, Option, Some, None, subst, codes, fold, rules, refl, sym, ◌∙◌, ap, arith, length, drop, append_assoc}
use Rattle.std.specs.List.{list_all, position_or_len}
use Rattle.std.specs.Prelude.{decimal, position, unsigned_abs}
use Rattle.std.proofs.lemmas.Bool.{and_parts, and_from, lt-ltb, le-ltb, le-leb, leb-true}
use Rattle.std.proofs.lemmas.Bool.Decides.{nat_tests}
use Rattle.std.proofs.lemmas.Fmt.{digits_decimal, digits_value-decimal, decimal_nonempty, decimal_digit, length-decimal-le}
use Rattle.std.proofs.lemmas.List.{length-append, length_push, take_at, drop_at}
use Rattle.std.proofs.lemmas.List.Folds.{list_all-append}
use Rattle.std.proofs.lemmas.Str.Parse.{IsNumeralModel, numerals_by_fold}
use Rattle.cip_text.specs.Numbers.{is_digit, is_point, value, whole, parts, cut_at, is_negative, without_sign, signed, integer_of, decimal4_of}
use Rattle.cip_text.specs.Numbers as numbers
use Rattle.cip_edit.specs.Columns.{is_printed}
use Rattle.cip_text.specs.Writing.{four_digits, coordinate}
use Rattle.cip_ctfile.proofs.lemmas.UsualNumbers.{some_length, not_negative, no_sign, positive}

-- what `decimal` writes

abbrev are_digits : List ℕ → Type 0
are_digits text = list_all is_digit text ≡ true

abbrev read_on : ℕ → List ℕ → ℕ
read_on n digits = fold (λ n d. 10 * n + (d - 48)) n digits

own : IsNumeralModel are_digits (read_on 0)
own = numerals_by_fold are_digits (search rules) read_on (search rules)

pub record IsNumber (text : List ℕ) (number : ℕ) : Type 0 where
  pub digits : list_all is_digit text ≡ true
  pub some : 0 < length text
  pub value : value text ≡ number

pub decimal_number : (n : ℕ) → n < 2 ^ 64 → IsNumber (decimal n) n
decimal_number n few = record {
  digits = digits_decimal own n few;
  some = decimal_nonempty n few;
  value = digits_value-decimal own n few;
}

-- digits are printed

digit_printed : (b : ℕ) → is_digit b ≡ true → nat_lt 32 b ≡ true
digit_printed b h = grind (arith, nat_tests)

pub digits_printed : (text : List ℕ) → list_all is_digit text ≡ true → is_printed text ≡ true
digits_printed [] h = refl
digits_printed (b ∷ bs) h =
    let each = and_parts (is_digit b) (list_all is_digit bs) h in
    and_from (nat_lt 32 b) (is_printed bs) (digit_printed b each.0) (digits_printed bs each.1)

-- a text that begins with a digit

negative : (most n : ℕ) → suc n ≤ most → signed most true (Some (suc n)) ≡ Ok (negsuc n)
negative most n few = rw (le-leb (suc n) most few) refl

whole_is : (text : List ℕ) (n : ℕ) → IsNumber text n → whole text ≡ Some n
whole_is text n is = rw (is.digits, lt-ltb 0 (length text) is.some, is.value) refl

pub integer_read : (text : List ℕ) (n : ℕ) → IsNumber text n → n ≤ 1000000000 → integer_of text ≡ Ok (pos n)
unfolding integer_of
integer_read [] n is few = absurd (omega (arith, is.some))
integer_read (b ∷ bs) n is few =
    let first : is_digit b ≡ true = (and_parts (is_digit b) (list_all is_digit bs) is.digits).0 in
    rw (some_length bs)
    (ap (λ text. signed 1000000000 (is_negative (b ∷ bs)) (whole text)) (no_sign b bs first)
    ∙ ap (λ sign. signed 1000000000 sign (whole (b ∷ bs))) (not_negative b bs first)
    ∙ ap (signed 1000000000 false) (whole_is (b ∷ bs) n is) ∙ positive 1000000000 n few)

-- digits, a point, and four digits

point_behind : (whole behind : List ℕ) → list_all is_digit whole ≡ true
    → position_or_len is_point (whole ++ 46 ∷ behind) ≡ length whole
point_behind [] behind h = refl
point_behind (b ∷ bs) behind h =
    let each = and_parts (is_digit b) (list_all is_digit bs) h in
    let other : (b == 46) ≡ false = grind (arith, nat_tests) in
    rw (other, point_behind bs behind each.1) (omega arith)

point_at : (whole behind : List ℕ) → list_all is_digit whole ≡ true
    → position is_point (whole ++ 46 ∷ behind) ≡ Some (length whole)
point_at whole behind h =
    let within : length whole < length (whole ++ 46 ∷ behind) = omega (arith, length-append whole (46 ∷ behind)) in
    rw (point_behind whole behind h, lt-ltb (length whole) (length (whole ++ 46 ∷ behind)) within) refl

behind_point : (whole behind : List ℕ) → drop (length whole + 1) (whole ++ 46 ∷ behind) ≡ behind
behind_point whole behind =
    ap (drop (length whole + 1)) (sym (append_assoc whole (46 ∷ []) behind))
    ∙ drop_at (whole ++ 46 ∷ []) behind (length whole + 1) (length_push whole 46)

abbrev four : ℕ → ℕ → ℕ → ℕ → List ℕ
four a b c d = (48 + a) ∷ (48 + b) ∷ (48 + c) ∷ (48 + d) ∷ []

four_is : (n : ℕ) → four_digits n ≡ four (n / 1000 % 10) (n / 100 % 10) (n / 10 % 10) (n % 10)
four_is n =
    rw (
      decimal_digit (n / 1000 % 10) (omega arith),
      decimal_digit (n / 100 % 10) (omega arith),
      decimal_digit (n / 10 % 10) (omega arith),
      decimal_digit (n % 10) (omega arith),
    ) refl

a_digit : (a : ℕ) → a < 10 → is_digit (48 + a) ≡ true
a_digit a few = grind (arith, nat_tests)

four_are_digits : (a b c d : ℕ) → a < 10 → b < 10 → c < 10 → d < 10 → list_all is_digit (four a b c d) ≡ true
four_are_digits a b c d p q r s = rw (a_digit a p, a_digit b q, a_digit c r, a_digit d s) refl

back : (a : ℕ) → (48 + a) - 48 ≡ a
back a = omega arith

parts_are : (text : List ℕ) (n a b c d : ℕ) → IsNumber text n → a < 10 → b < 10 → c < 10 → d < 10
    → parts text (four a b c d) ≡ Some (10000 * n + (1000 * a + (100 * b + (10 * c + d))))
parts_are text n a b c d is p q r s =
    let some : nat_lt 0 (length text + 4) ≡ true = lt-ltb 0 (length text + 4) (omega arith) in
    rw (is.digits, four_are_digits a b c d p q r s, some, is.value, back a, back b, back c, back d) refl

pub record IsCoordinate (text : List ℕ) (number : ℕ) : Type 0 where
  pub front : List ℕ
  pub is : text ≡ front ++ 46 ∷ four_digits number
  pub spells : IsNumber front (number / 10000)

pub coordinate_text : (n : ℕ) → n < 2 ^ 64
    → IsCoordinate (decimal (n / 10000) ++ (codes "." ++ four_digits n)) n
coordinate_text n few = record {
  front = decimal (n / 10000);
  is = refl;
  spells = decimal_number (n / 10000) (omega (arith, few));
}

sum_of_digits : (n : ℕ)
    → 10000 * (n / 10000) + (1000 * (n / 1000 % 10) + (100 * (n / 100 % 10) + (10 * (n / 10 % 10) + n % 10))) ≡ n
sum_of_digits n = omega arith

decimal_read : (text : List ℕ) (n : ℕ) → IsCoordinate text n → numbers.decimal text ≡ Some n
decimal_read text n is =
    rw is.is
    (ap (cut_at (is.front ++ 46 ∷ four_digits n)) (point_at is.front (four_digits n) is.spells.digits)
    ∙ ap (λ front. parts front (drop (length is.front + 1) (is.front ++ 46 ∷ four_digits n)))
    (take_at is.front (46 ∷ four_digits n) (length is.front) refl)
    ∙ ap (parts is.front) (behind_point is.front (four_digits n) ∙ four_is n)
    ∙ parts_are is.front (n / 10000) (n / 1000 % 10) (n / 100 % 10) (n / 10 % 10) (n % 10) is.spells (omega arith)
    (omega arith) (omega arith) (omega arith)
    ∙ ap Some (sum_of_digits n))

-- with its sign

read_front : (front : List ℕ) (n : ℕ) → IsNumber front (n / 10000) → n ≤ 500000000
    → decimal4_of (front ++ 46 ∷ four_digits n) ≡ Ok (pos n)
unfolding decimal4_of
read_front [] n is few = absurd (omega (arith, is.some))
read_front (b ∷ bs) n is few =
    let first : is_digit b ≡ true = (and_parts (is_digit b) (list_all is_digit bs) is.digits).0 in
    let more = bs ++ 46 ∷ four_digits n in
    let coordinate : IsCoordinate (b ∷ more) n = record { front = b ∷ bs; is = refl; spells = is } in
    rw (some_length more)
    (ap (λ text. signed 500000000 (is_negative (b ∷ more)) (numbers.decimal text)) (no_sign b more first)
    ∙ ap (λ sign. signed 500000000 sign (numbers.decimal (b ∷ more))) (not_negative b more first)
    ∙ ap (signed 500000000 false) (decimal_read (b ∷ more) n coordinate) ∙ positive 500000000 n few)

read_negative : (text : List ℕ) (n : ℕ) → IsCoordinate text (suc n) → suc n ≤ 500000000
    → decimal4_of (45 ∷ text) ≡ Ok (negsuc n)
unfolding decimal4_of
read_negative text n is few =
    let some : nat_lt 0 (suc (length text)) ≡ true = lt-ltb 0 (suc (length text)) (omega arith) in
    rw (some_length text, some)
    (ap (signed 500000000 true) (decimal_read text (suc n) is) ∙ negative 500000000 n few)

pub coordinate_read : (z : ℤ) → unsigned_abs z ≤ 500000000 → decimal4_of (coordinate z) ≡ Ok z
unfolding coordinate
coordinate_read (pos n) few =
    let none : nat_lt n 0 ≡ false = le-ltb n 0 (omega arith) in
    rw none (read_front (decimal (n / 10000)) n (decimal_number (n / 10000) (omega (arith, few))) few)
coordinate_read (negsuc n) few =
    read_negative (decimal (suc n / 10000) ++ (codes "." ++ four_digits (suc n))) n
    (coordinate_text (suc n) (omega (arith, few))) few

-- how it is printed

four_printed : (n : ℕ) → is_printed (four_digits n) ≡ true
four_printed n =
    digits_printed (four_digits n) (ap (list_all is_digit) (four_is n)
    ∙ four_are_digits (n / 1000 % 10) (n / 100 % 10) (n / 10 % 10) (n % 10) (omega arith) (omega arith) (omega arith)
    (omega arith))

size_printed : (front : List ℕ) (n : ℕ) → list_all is_digit front ≡ true
    → is_printed (front ++ 46 ∷ four_digits n) ≡ true
size_printed front n h =
    list_all-append (λ b. nat_lt 32 b) front (46 ∷ four_digits n)
    ∙ and_from (is_printed front) (is_printed (46 ∷ four_digits n)) (digits_printed front h) (four_printed n)

pub coordinate_printed : (z : ℤ) → unsigned_abs z ≤ 500000000 → is_printed (coordinate z) ≡ true
unfolding coordinate
coordinate_printed (pos n) few =
    let none : nat_lt n 0 ≡ false = le-ltb n 0 (omega arith) in
    rw none (size_printed (decimal (n / 10000)) n (decimal_number (n / 10000) (omega (arith, few))).digits)
coordinate_printed (negsuc n) few =
    size_printed (decimal (suc n / 10000)) (suc n) (decimal_number (suc n / 10000) (omega (arith, few))).digits

-- how long it is: four digits before the point where there is a sign, else five

four_long : (n : ℕ) → length (four_digits n) ≡ 4
four_long n = ap length (four_is n)

size_long : (k n : ℕ) → 0 < k → n < 2 ^ 64 → n / 10000 < 10 ^ k
    → length (decimal (n / 10000) ++ 46 ∷ four_digits n) ≤ k + 5
size_long k n some few small =
    omega (
      arith,
      length-append (decimal (n / 10000)) (46 ∷ four_digits n),
      four_long n,
      length-decimal-le k
          (n / 10000) some small (omega (arith, few)),
    )

abbrev pub FitsTen : ℤ → Type 0
FitsTen (pos n) = n ≤ 500000000
FitsTen (negsuc n) = suc n ≤ 99999999

pub coordinate_long : (z : ℤ) → FitsTen z → length (coordinate z) ≤ 10
unfolding coordinate
coordinate_long (pos n) few =
    let none : nat_lt n 0 ≡ false = le-ltb n 0 (omega arith) in
    rw none (size_long 5 n (omega arith) (omega (arith, few)) (omega (arith, few)))
coordinate_long (negsuc n) few =
    omega (arith, size_long 4 (suc n) (omega arith) (omega (arith, few)) (omega (arith, few)))

pub coordinate_some : (z : ℤ) → 0 < length (coordinate z)
unfolding coordinate
coordinate_some (pos n) =
    let none : nat_lt n 0 ≡ false = le-ltb n 0 (omega arith) in
    rw none (omega (arith, length-append (decimal (n / 10000)) (46 ∷ four_digits n)))
coordinate_some (negsuc n) = omega arith

-- no coordinate is larger

signed_small : (most n : ℕ) (sign : Bool) (z : ℤ) (k : Bool) → nat_le n most ≡ k → signed most sign (Some n) ≡ Ok z
    → unsigned_abs z ≤ most
signed_small most n sign z false e h = absurd (let m = rw e at h in cc)
signed_small most n false z true e h =
    let is : pos n ≡ z = let m = rw e at h in cc in
    subst (λ z. unsigned_abs z ≤ most) is (leb-true n most e)
signed_small most zero true z true e h =
    let is : pos zero ≡ z = let m = rw e at h in cc in
    subst (λ z. unsigned_abs z ≤ most) is (omega arith)
signed_small most (suc n) true z true e h =
    let is : negsuc n ≡ z = let m = rw e at h in cc in
    subst (λ z. unsigned_abs z ≤ most) is (leb-true (suc n) most e)

sized_small : (most : ℕ) (size : Option ℕ) (sign : Bool) (z : ℤ) → signed most sign size ≡ Ok z → unsigned_abs z ≤ most
sized_small most None sign z h = absurd cc
sized_small most (Some n) sign z h = signed_small most n sign z (nat_le n most) refl h

pub decimal_small : (text : List ℕ) (z : ℤ) → decimal4_of text ≡ Ok z → unsigned_abs z ≤ 500000000
unfolding decimal4_of
decimal_small [] z h = absurd cc
decimal_small (b ∷ bs) z h =
    sized_small 500000000 (numbers.decimal (without_sign (b ∷ bs))) (is_negative (b ∷ bs)) z (rw (some_length bs) at h)
