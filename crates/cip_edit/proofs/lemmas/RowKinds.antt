-- Rows: lines that begin with a number.
use Rattle.std.proofs.Common.{◌≡◌, ◌+◌, ◌-◌, ◌++◌, ℕ, zero, suc, ℤ, List, [], ◌∷◌, Bool, true, false, ◌==◌, ◌||◌, nat_lt, Ok, Option, Some, None, refl, sym, ◌∙◌, ap, arith, length, take, drop, reverse}
use Rattle.std.specs.Prelude.{position}
use Rattle.std.proofs.lemmas.Bool.{and_left, and_right, or_parts}
use Rattle.std.proofs.lemmas.Bool.Decides.{nat_tests}
use Rattle.std.proofs.lemmas.Grind.{common_steps}
use Rattle.std.proofs.lemmas.List.Quantifiers.{position-Some}
use Rattle.std.proofs.lemmas.List.{reverse-append, reverse-reverse}
use Rattle.cip_text.specs.Kinds.{is_blank, is_terminator, is_molecule_end}
use Rattle.cip_text.specs.Columns.{without_spaces_before, trim_end_spaces, field}
use Rattle.cip_text.specs.Numbers.{is_digit, is_point, whole, parts, cut_at, decimal, is_negative, without_sign, signed, integer_of, decimal4_of}
use Rattle.cip_item.specs.Kinds.{is_heading, is_label_heading}
use Rattle.cip_edit.specs.EditedRows.{IsRow}
use Rattle.cip_edit.proofs.lemmas.Fields.{trimmed}
use Rattle.cip_ctfile.proofs.lemmas.UsualNumbers.{some_length}

-- a text that begins with a byte of a number

abbrev begins_number : ℕ → Bool
begins_number b = is_digit b || (b == 45 || (b == 43 || b == 46))

abbrev pub BeginsNumber : List ℕ → Type 0
BeginsNumber text = (b : ℕ) × (more : List ℕ) × (text ≡ b ∷ more) × (begins_number b ≡ true)

-- what is left without the spaces after it is the front of a text

without_before : (text : List ℕ) → (front : List ℕ) × (front ++ without_spaces_before text ≡ text)
without_before [] = ([], refl)
without_before (b ∷ bs) = by_space b bs (b == 32) refl (without_before bs)
  where
    by_space : (b : ℕ) (bs : List ℕ) (k : Bool) → (b == 32) ≡ k
        → (front : List ℕ) × (front ++ without_spaces_before bs ≡ bs)
        → (front : List ℕ) × (front ++ without_spaces_before (b ∷ bs) ≡ b ∷ bs)
    by_space b bs true e more = (b ∷ more.0, rw e (ap (λ xs. b ∷ xs) more.1))
    by_space b bs false e more = ([], rw e refl)

without_behind : (text : List ℕ) → (behind : List ℕ) × (trim_end_spaces text ++ behind ≡ text)
without_behind text =
    let front = without_before (reverse text) in (
      reverse front.0,
      sym (reverse-append front.0 (without_spaces_before (reverse text))) ∙ ap reverse front.1 ∙ reverse-reverse text,
    )

first_same : (b c : ℕ) (bs cs : List ℕ) → b ∷ bs ≡ c ∷ cs → b ≡ c
first_same b c bs cs e = cc

-- a line whose first columns begin with a number

row_byte : (b : ℕ) (bs : List ℕ) → begins_number b ≡ true → IsRow (b ∷ bs)
row_byte b bs h = record {
  filled = and_left (b == 32 || b == 9) (is_blank bs) (grind (arith, nat_tests));
  no_heading = and_right (nat_lt 0 (length (b ∷ bs))) (b == 62) (grind (arith, nat_tests));
  no_terminator = and_right (nat_lt 0 (length (b ∷ bs))) (b == 36) (grind (arith, nat_tests));
  no_end = and_right (nat_lt 0 (length (b ∷ bs))) (b == 77) (grind (arith, nat_tests));
}

row_space : (b : ℕ) (bs : List ℕ) → (b == 32) ≡ true → is_blank bs ≡ false → IsRow (b ∷ bs)
row_space b bs e blank = record {
  filled = and_right (b == 32 || b == 9) (is_blank bs) blank;
  no_heading = and_right (nat_lt 0 (length (b ∷ bs))) (b == 62) (grind (arith, nat_tests));
  no_terminator = and_right (nat_lt 0 (length (b ∷ bs))) (b == 36) (grind (arith, nat_tests));
  no_end = and_right (nat_lt 0 (length (b ∷ bs))) (b == 77) (grind (arith, nat_tests));
}

row_first : (width b : ℕ) (bs : List ℕ) (k : Bool) → (b == 32) ≡ k
    → (BeginsNumber (trimmed (take width bs)) → IsRow bs) → BeginsNumber (trimmed (b ∷ take width bs)) → IsRow (b ∷ bs)
row_first width b bs true e more begins = row_space b bs e (more (rw e at begins)).filled
row_first width b bs false e more begins =
    let first = rw e at begins in
    let whole = without_behind (b ∷ take width bs) in
    let same : first.0 ≡ b =
    first_same first.0 b (first.1 ++ whole.0) (take width bs) (ap (λ text. text ++ whole.0) (sym first.2) ∙ whole.1) in
    row_byte b bs (ap begins_number (sym same) ∙ first.3)

row_in : (width : ℕ) (content : List ℕ) → BeginsNumber (trimmed (take width content)) → IsRow content
row_in zero content begins = absurd (let e = begins.2 in cc)
row_in (suc width) [] begins = absurd (let e = begins.2 in cc)
row_in (suc width) (b ∷ bs) begins = row_first width b bs (b == 32) refl (row_in width bs) begins

-- numbers begin so

record IsNoNumber (b : ℕ) : Type 0 where
  digit : is_digit b ≡ false
  minus : (b == 45) ≡ false
  plus : (b == 43) ≡ false
  point : (b == 46) ≡ false

no_number : (b : ℕ) → begins_number b ≡ false → IsNoNumber b
no_number b h =
    let first = or_parts (is_digit b) (b == 45 || (b == 43 || b == 46)) h in
    let second = or_parts (b == 45) (b == 43 || b == 46) first.1 in
    let third = or_parts (b == 43) (b == 46) second.1 in
    record { digit = first.0; minus = second.0; plus = third.0; point = third.1 }

unsigned : (b : ℕ) (bs : List ℕ) → IsNoNumber b → without_sign (b ∷ bs) ≡ b ∷ bs
unsigned b bs isnt = rw (
  and_right (nat_lt 0 (suc (length bs))) (b == 45) isnt.minus,
  and_right
      (nat_lt 0 (suc (length bs))) (b == 43) isnt.plus,
) refl

no_whole : (b : ℕ) (bs : List ℕ) → IsNoNumber b → whole (b ∷ bs) ≡ None
no_whole b bs isnt = rw (isnt.digit) refl

refused : (most : ℕ) (negative : Bool) (size : Option ℕ) (z : ℤ) → size ≡ None → signed most negative size ≡ Ok z → ⊥
refused most negative size z none h = let e = rw none at h in cc

integer_byte : (b : ℕ) (bs : List ℕ) (z : ℤ) (k : Bool) → begins_number b ≡ k → integer_of (b ∷ bs) ≡ Ok z
    → BeginsNumber (b ∷ bs)
unfolding integer_of
integer_byte b bs z true e h = (b, bs, refl, e)
integer_byte b bs z false e h =
    let isnt = no_number b e in
    absurd (refused 1000000000 (is_negative (b ∷ bs)) (whole (without_sign (b ∷ bs))) z
    (ap whole (unsigned b bs isnt) ∙ no_whole b bs isnt) (rw (some_length bs) at h))

pub integer_begins : (text : List ℕ) (z : ℤ) → integer_of text ≡ Ok z → BeginsNumber text
unfolding integer_of
integer_begins [] z h = absurd cc
integer_begins (b ∷ bs) z h = integer_byte b bs z (begins_number b) refl h

no_parts : (b : ℕ) (bs behind : List ℕ) → IsNoNumber b → parts (b ∷ bs) behind ≡ None
no_parts b bs behind isnt = rw isnt.digit refl

no_cut : (b : ℕ) (bs : List ℕ) (place : Option ℕ) → IsNoNumber b → position is_point (b ∷ bs) ≡ place
    → cut_at (b ∷ bs) place ≡ None
no_cut b bs None isnt is = no_parts b bs [] isnt
no_cut b bs (Some zero) isnt is =
    absurd (grind (arith, common_steps, isnt.point, (position-Some is_point (b ∷ bs) 0 0 is).1))
no_cut b bs (Some (suc place)) isnt is = no_parts b (take place bs) (drop (suc place + 1) (b ∷ bs)) isnt

no_decimal : (b : ℕ) (bs : List ℕ) → IsNoNumber b → decimal (b ∷ bs) ≡ None
no_decimal b bs isnt = no_cut b bs (position is_point (b ∷ bs)) isnt refl

decimal_byte : (b : ℕ) (bs : List ℕ) (z : ℤ) (k : Bool) → begins_number b ≡ k → decimal4_of (b ∷ bs) ≡ Ok z
    → BeginsNumber (b ∷ bs)
unfolding decimal4_of
decimal_byte b bs z true e h = (b, bs, refl, e)
decimal_byte b bs z false e h =
    let isnt = no_number b e in
    absurd (refused 500000000 (is_negative (b ∷ bs)) (decimal (without_sign (b ∷ bs))) z
    (ap decimal (unsigned b bs isnt) ∙ no_decimal b bs isnt) (rw (some_length bs) at h))

pub decimal_begins : (text : List ℕ) (z : ℤ) → decimal4_of text ≡ Ok z → BeginsNumber text
unfolding decimal4_of
decimal_begins [] z h = absurd cc
decimal_begins (b ∷ bs) z h = decimal_byte b bs z (begins_number b) refl h

-- a line whose first field is a number is a row

pub integer_row : (last : ℕ) (content : List ℕ) (z : ℤ) → integer_of (field 1 last content) ≡ Ok z → IsRow content
integer_row last content z h = row_in (last + 1 - 1) content (integer_begins (field 1 last content) z h)

pub decimal_row : (last : ℕ) (content : List ℕ) (z : ℤ) → decimal4_of (field 1 last content) ≡ Ok z → IsRow content
decimal_row last content z h = row_in (last + 1 - 1) content (decimal_begins (field 1 last content) z h)

-- what a row isn't

pub record IsPlain (content : List ℕ) : Type 0 where
  pub blank : is_blank content ≡ false
  pub heading : is_heading content ≡ false
  pub label_heading : is_label_heading content ≡ false
  pub terminator : is_terminator content ≡ false
  pub molecule_end : is_molecule_end content ≡ false

pub row_plain : (content : List ℕ) → IsRow content → IsPlain content
row_plain content row = record {
  blank = row.filled;
  heading = rw row.no_heading refl;
  label_heading = rw row.no_heading refl;
  terminator = rw row.no_terminator refl;
  molecule_end = rw row.no_end refl;
}
