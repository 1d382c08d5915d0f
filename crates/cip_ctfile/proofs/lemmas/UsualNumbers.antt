-- A few digits after spaces are the number that they spell.
use Rattle.std.proofs.Common.{◌≡◌, ◌≤◌, ◌<◌, ◌+◌, ◌-◌, ◌*◌, ◌++◌, ℕ, suc, pos, List, [], ◌∷◌, true, false, ◌==◌, nat_lt, Ok, Some, refl, sym, ◌∙◌, ap, arith, length, take, drop, get_or, reverse, append_assoc}
use Rattle.std.specs.List.{list_all}
use Rattle.std.proofs.lemmas.Bool.{and_parts, and_right, lt-ltb, le-leb}
use Rattle.std.proofs.lemmas.Bool.Decides.{nat_tests}
use Rattle.std.proofs.lemmas.List.{drop_more, reverse-append, reverse-reverse}
use Rattle.cip_text.specs.Columns.{field, without_spaces_before, trim_end_spaces}
use Rattle.cip_text.specs.Numbers.{is_digit, whole, is_negative, without_sign, signed, integer_of}
use Rattle.cip_ctfile.specs.Usual.{trimmed, Spells}

no_space : (b : ℕ) → is_digit b ≡ true → (b == 32) ≡ false
no_space b h = grind (arith, nat_tests)

pub none_behind : (front : List ℕ) (b : ℕ) → (b == 32) ≡ false
    → trim_end_spaces (front ++ b ∷ []) ≡ front ++ b ∷ []
none_behind front b e =
    ap (λ bytes. reverse (without_spaces_before bytes)) (reverse-append front (b ∷ []))
    ∙ rw e (reverse-append (b ∷ []) (reverse front) ∙ ap (λ bytes. bytes ++ b ∷ []) (reverse-reverse front))

-- no spaces come after digits
pub digits_behind : (front digits : List ℕ) → list_all is_digit digits ≡ true → 0 < length digits
    → trim_end_spaces (front ++ digits) ≡ front ++ digits
digits_behind front [] h some = absurd (omega (arith, some))
digits_behind front (b ∷ []) h some = none_behind front b (no_space b (and_parts (is_digit b) true h).0)
digits_behind front (b ∷ c ∷ cs) h some =
    let each = and_parts (is_digit b) (list_all is_digit (c ∷ cs)) h in
    ap trim_end_spaces (sym (append_assoc front (b ∷ []) (c ∷ cs)))
    ∙ digits_behind (front ++ b ∷ []) (c ∷ cs) each.1 (omega arith) ∙ append_assoc front (b ∷ []) (c ∷ cs)

-- whole numbers

pub some_length : (bs : List ℕ) → (suc (length bs) == 0) ≡ false
some_length bs = grind (arith, nat_tests)

pub not_negative : (b : ℕ) (bs : List ℕ) → is_digit b ≡ true → is_negative (b ∷ bs) ≡ false
not_negative b bs h = and_right (nat_lt 0 (suc (length bs))) (b == 45) (grind (arith, nat_tests))

pub no_sign : (b : ℕ) (bs : List ℕ) → is_digit b ≡ true → without_sign (b ∷ bs) ≡ b ∷ bs
no_sign b bs h =
    rw (
      not_negative b bs h,
      and_right (nat_lt 0 (suc (length bs))) (b == 43)
          (let e : (b == 43) ≡ false = grind (arith, nat_tests) in e),
    ) refl

pub positive : (most n : ℕ) → n ≤ most → signed most false (Some n) ≡ Ok (pos n)
positive most n few = rw (le-leb n most few) refl

whole_is : (text : List ℕ) (n : ℕ) → Spells text n → whole text ≡ Some n
whole_is text n is = rw (is.digits, lt-ltb 0 (length text) is.some, is.value) refl

pub digits_read : (text : List ℕ) (n : ℕ) → Spells text n → integer_of text ≡ Ok (pos n)
unfolding integer_of
digits_read [] n is = absurd (omega (arith, is.some))
digits_read (b ∷ bs) n is =
    let first : is_digit b ≡ true = (and_parts (is_digit b) (list_all is_digit bs) is.digits).0 in
    rw (some_length bs)
    (ap (λ text. signed 1000000000 (is_negative (b ∷ bs)) (whole text)) (no_sign b bs first)
    ∙ ap (λ sign. signed 1000000000 sign (whole (b ∷ bs))) (not_negative b bs first)
    ∙ ap (signed 1000000000 false) (whole_is (b ∷ bs) n is) ∙ positive 1000000000 n (omega (arith, is.few)))

-- in three columns

-- a digit is what a byte has above that of 0
abbrev IsDigit : ℕ → ℕ → Type 0
IsDigit b n = (is_digit b ≡ true) × (n ≡ b - 48) × (n ≤ 9)

behind_two : (c : ℕ) → is_digit c ≡ true → trimmed (32 ∷ 32 ∷ c ∷ []) ≡ c ∷ []
behind_two c h = rw (no_space c h) (digits_behind [] (c ∷ []) (rw h refl) (omega arith))

behind_one : (b c : ℕ) → is_digit b ≡ true → is_digit c ≡ true → trimmed (32 ∷ b ∷ c ∷ []) ≡ b ∷ c ∷ []
behind_one b c h k = rw (no_space b h) (digits_behind [] (b ∷ c ∷ []) (rw (h, k) refl) (omega arith))

behind_none : (a b c : ℕ) → is_digit a ≡ true → is_digit b ≡ true → is_digit c ≡ true
    → trimmed (a ∷ b ∷ c ∷ []) ≡ a ∷ b ∷ c ∷ []
behind_none a b c g h k = rw (no_space a g) (digits_behind [] (a ∷ b ∷ c ∷ []) (rw (g, h, k) refl) (omega arith))

pub one_digit : (c z : ℕ) → is_digit c ≡ true → z ≡ c - 48 → z ≤ 9
    → integer_of (trimmed (32 ∷ 32 ∷ c ∷ [])) ≡ Ok (pos z)
one_digit c z h e few =
    ap integer_of (behind_two c h) ∙ digits_read (c ∷ []) z (record {
      digits = rw h refl;
      some = omega arith;
      value = omega (arith, e);
      few = omega (arith, few);
    })

pub two_digits : (b c y z : ℕ) → is_digit b ≡ true → is_digit c ≡ true → y ≡ b - 48 → z ≡ c - 48 → y ≤ 9 → z ≤ 9
    → integer_of (trimmed (32 ∷ b ∷ c ∷ [])) ≡ Ok (pos (10 * y + z))
two_digits b c y z h k d e q r =
    ap integer_of (behind_one b c h k) ∙ digits_read (b ∷ c ∷ []) (10 * y + z) (record {
      digits = rw (h, k) refl;
      some = omega arith;
      value = omega (arith, d, e);
      few = omega (arith, q, r);
    })

pub three_digits : (a b c x y z : ℕ) → is_digit a ≡ true → is_digit b ≡ true → is_digit c ≡ true
    → x ≡ a - 48 → y ≡ b - 48 → z ≡ c - 48 → x ≤ 9 → y ≤ 9 → z ≤ 9
    → integer_of (trimmed (a ∷ b ∷ c ∷ [])) ≡ Ok (pos (100 * x + (10 * y + z)))
three_digits a b c x y z g h k d e f p q r =
    ap integer_of (behind_none a b c g h k) ∙ digits_read (a ∷ b ∷ c ∷ []) (100 * x + (10 * y + z)) (record {
      digits = rw (g, h, k) refl;
      some = omega arith;
      value = omega (arith, d, e, f);
      few = omega (arith, p, q, r);
    })

-- the three columns from one on
three_columns : (line : List ℕ) (start : ℕ) → start + 3 ≤ length line
    → take 3 (drop start line)
    ≡ get_or line start 0 ∷ get_or line (start + 1) 0 ∷ get_or line (start + 2) 0 ∷ []
three_columns line start within =
    let third : start + 1 + 1 ≡ start + 2 = omega arith in
    ap (take 3) (drop_more line start 0 (omega (arith, within)))
    ∙ ap (λ back. get_or line start 0 ∷ take 2 back) (drop_more line (start + 1) 0 (omega (arith, within)))
    ∙ ap (λ n. get_or line start 0 ∷ get_or line (start + 1) 0 ∷ take 1 (drop n line)) third
    ∙ ap (λ back. get_or line start 0 ∷ get_or line (start + 1) 0 ∷ take 1 back)
    (drop_more line (start + 2) 0 (omega (arith, within)))

pub three_read : (line : List ℕ) (first number : ℕ) → 0 < first → first - 1 + 3 ≤ length line
    → integer_of (trimmed (get_or line (first - 1) 0 ∷ get_or line (first - 1 + 1) 0 ∷ get_or line (first - 1 + 2) 0
    ∷ [])) ≡ Ok (pos number)
    → integer_of (field first (first + 2) line) ≡ Ok (pos number)
three_read line first number some within is =
    let count : first + 2 + 1 - first ≡ 3 = omega arith in
    ap (λ n. integer_of (trimmed (take n (drop (first - 1) line)))) count
    ∙ ap (λ text. integer_of (trimmed text)) (three_columns line (first - 1) within) ∙ is
