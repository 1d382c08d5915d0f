-- What is read of a bond line, field by field.
use Rattle.std.proofs.Common.{◌≡◌, ℕ, ℤ, List, Result, Ok, Err, Option, Some, None, refl, sym, ap, ◌∙◌, arith}
use Rattle.std.proofs.lemmas.Bool.{le-leb}
use Rattle.std.specs.Option.{ok_or}
use Rattle.cip_text.specs.Columns.{field}
use Rattle.cip_text.specs.Numbers.{integer_of}
use Rattle.cip_text.specs.declared.numbers.NumberFault.{NumberFault}
use Rattle.cip_text.specs.declared.numbers.NumberFault.TheVariants.{Empty, NotANumber, OutOfRange}
use Rattle.cip_mol.specs.Bonds.{cause_of}
use Rattle.cip_mol.specs.declared.faults.BondCause.{BondCause}
use Rattle.cip_mol.specs.declared.graph.molecule.Bond.{Bond}
use Rattle.cip_mol.specs.declared.graph.molecule.Mark.{Mark}
use Rattle.cip_mol.specs.declared.labels.refusal.ReadCause.{ReadCause}
use Rattle.cip_mol.specs.declared.labels.refusal.ReadCause.TheVariants.{BondEnd, BondType, BondMark}
use Rattle.cip_ctfile.specs.Causes.{order_of, unless_refused}
use Rattle.cip_ctfile.specs.Fields.{number_in, one_based_index, or_zero, up_to}
use Rattle.cip_ctfile.specs.Reading.{◌>>=◌}
use Rattle.cip_v2000.specs.BondLine.{bond_of, mark_of}

abbrev pub bond_from : ℕ → List Bond → Option ℕ → Option ℕ → Option ℕ → Option ℕ → Result Bond ReadCause
bond_from atoms before a b order code = do
  a ← ok_or a BondEnd
  b ← ok_or b BondEnd
  order ← ok_or order BondType
  mark ← ok_or (mark_of order code) BondMark
  let bond : Bond = record { a = a; b = b; order = order; mark = mark } in
      unless_refused bond (cause_of atoms before bond)

pub bond_of-is : (atoms : ℕ) (before : List Bond) (line : List ℕ) → bond_of atoms before line
    ≡ bond_from atoms before (one_based_index (number_in atoms (field 1 3 line)))
    (one_based_index (number_in atoms (field 4 6 line))) (order_of (number_in 3 (field 7 9 line)))
    (number_in 6 (field 10 12 line))
unfolding bond_of
bond_of-is atoms before line = refl

-- the fields of the bond that was read
pub record IsBondOf (one two kind code : Option ℕ) (bond : Bond) : Type 0 where
  pub a : one ≡ Some bond.a
  pub b : two ≡ Some bond.b
  pub order : kind ≡ Some bond.order
  pub mark : mark_of bond.order code ≡ Some bond.mark

-- and no cause holds at it
pub record IsFreeBond (atoms : ℕ) (before : List Bond) (a b order code : Option ℕ) (bond : Bond) : Type 0 where
  pub fields : IsBondOf a b order code bond
  pub free : cause_of atoms before bond ≡ None

unrefused : (bond given : Bond) (cause : Option BondCause) → unless_refused bond cause ≡ Ok given
    → (bond ≡ given) × (cause ≡ None)
unrefused bond given None h = (cc, refl)
unrefused bond given (Some cause) h = absurd cc

marked : (atoms : ℕ) (before : List Bond) (a b order : ℕ) (code : Option ℕ) (mark : Option Mark) (bond : Bond)
    → mark_of order code ≡ mark
    → (ok_or mark BondMark >>= λ mark. unless_refused (record { a = a; b = b; order = order; mark = mark })
    (cause_of atoms before (record { a = a; b = b; order = order; mark = mark }))) ≡ Ok bond
    → IsFreeBond atoms before (Some a) (Some b) (Some order) code bond
marked atoms before a b order code None bond is h = absurd cc
marked atoms before a b order code (Some mark) bond is h =
    let read : Bond = record { a = a; b = b; order = order; mark = mark } in
    let read_is = unrefused read bond (cause_of atoms before read) h in
    let same : read ≡ bond = read_is.0 in
    record {
      fields = record {
        a = ap (λ bond. Some bond.a) same;
        b = ap (λ bond. Some bond.b) same;
        order = ap (λ bond. Some bond.order) same;
        mark = sym (ap (λ bond. mark_of bond.order code) same) ∙ is ∙ ap (λ bond. Some bond.mark) same;
      };
      free = ap (cause_of atoms before) (sym same) ∙ read_is.1;
    }

pub fields : (atoms : ℕ) (before : List Bond) (a b order code : Option ℕ) (bond : Bond)
    → bond_from atoms before a b order code ≡ Ok bond → IsFreeBond atoms before a b order code bond
fields atoms before (Some a) (Some b) (Some order) code bond h =
    marked atoms before a b order code (mark_of order code) bond refl h
fields atoms before a b order code bond h = absurd cc

-- a bond of these fields that has no cause
pub bond_given : (atoms : ℕ) (before : List Bond) (a b order code : Option ℕ) (bond : Bond)
    → IsBondOf a b order code bond → cause_of atoms before bond ≡ None
    → bond_from atoms before a b order code ≡ Ok bond
bond_given atoms before a b order code bond is none = rw (is.a, is.b, is.order, is.mark, none) refl

-- the number of an end's field
end_number : (most : ℕ) (number : Result ℤ NumberFault) (n : ℕ) → one_based_index (up_to most (or_zero number)) ≡ Some n
    → (z : ℤ) × (number ≡ Ok z)
end_number most (Ok z) n h = (z, refl)
end_number most (Err Empty) n h = absurd (let e = rw (le-leb 0 most (omega arith)) at h in cc)
end_number most (Err NotANumber) n h = absurd cc
end_number most (Err OutOfRange) n h = absurd cc

pub named_number : (most n : ℕ) (text : List ℕ) → one_based_index (number_in most text) ≡ Some n
    → (z : ℤ) × (integer_of text ≡ Ok z)
unfolding number_in
named_number most n text h = end_number most (integer_of text) n h

-- the same of a line

abbrev pub IsBondLineOf : ℕ → List ℕ → Bond → Type 0
IsBondLineOf atoms line bond =
    IsBondOf (one_based_index (number_in atoms (field 1 3 line))) (one_based_index (number_in atoms (field 4 6 line)))
    (order_of (number_in 3 (field 7 9 line))) (number_in 6 (field 10 12 line)) bond

pub record IsFreeBondLine (atoms : ℕ) (before : List Bond) (line : List ℕ) (bond : Bond) : Type 0 where
  pub fields : IsBondLineOf atoms line bond
  pub free : cause_of atoms before bond ≡ None

pub line_fields : (atoms : ℕ) (before : List Bond) (line : List ℕ) (bond : Bond) → bond_of atoms before line ≡ Ok bond
    → IsFreeBondLine atoms before line bond
line_fields atoms before line bond h =
    let is = fields atoms before (one_based_index (number_in atoms (field 1 3 line)))
    (one_based_index (number_in atoms (field 4 6 line))) (order_of (number_in 3 (field 7 9 line)))
    (number_in 6 (field 10 12 line)) bond (sym (bond_of-is atoms before line) ∙ h) in
    record { fields = is.fields; free = is.free }

pub line_given : (atoms : ℕ) (before : List Bond) (line : List ℕ) (bond : Bond) → IsBondLineOf atoms line bond
    → cause_of atoms before bond ≡ None → bond_of atoms before line ≡ Ok bond
line_given atoms before line bond is none =
    bond_of-is atoms before line
    ∙ bond_given atoms before (one_based_index (number_in atoms (field 1 3 line)))
    (one_based_index (number_in atoms (field 4 6 line))) (order_of (number_in 3 (field 7 9 line)))
    (number_in 6 (field 10 12 line)) bond is none
