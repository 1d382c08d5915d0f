-- The rows of a mirrored record give the mirror image.
use Rattle.std.proofs.Common.{◌≡◌, ◌≤◌, ◌==◌, ◌&&◌, ℕ, zero, suc, ℤ, pos, negsuc, neg_ℤ, List, Bool, true, false, Option, Some, None, Ok, refl, sym, ap, ◌∙◌, subst, arith, ◌⊎◌, inl, inr}
use Rattle.std.specs.Prelude.{decimal, int_lt, unsigned_abs}
use Rattle.std.proofs.lemmas.Bool.{cases_eq, ne_eqb, le-leb}
use Rattle.std.proofs.lemmas.Bool.Decides.{nat_tests}
use Rattle.std.proofs.lemmas.Fmt.{length-decimal-le}
use Rattle.cip_text.specs.Columns.{field}
use Rattle.cip_text.specs.Numbers.{decimal4_of}
use Rattle.cip_num.specs.Space.{mirrored}
use Rattle.cip_mol.specs.Bonds.{cause_of}
use Rattle.cip_mol.specs.Reflection.{exchanged, mirrored_bond}
use Rattle.cip_mol.specs.declared.graph.molecule.Bond.{Bond}
use Rattle.cip_mol.specs.declared.graph.molecule.Mark.{Mark}
use Rattle.cip_mol.specs.declared.graph.molecule.Mark.TheVariants.{Plain, Up, Down, Either}
use Rattle.cip_ctfile.specs.Causes.{order_of}
use Rattle.cip_ctfile.specs.Fields.{number_in, one_based_index, up_to, or_zero}
use Rattle.cip_v2000.specs.declared.atoms.AtomLine.{AtomLine}
use Rattle.cip_v2000.specs.AtomLine.{atom_of}
use Rattle.cip_v2000.specs.BondLine.{bond_of, mark_of}
use Rattle.cip_edit.specs.Columns.{with_columns, Fits}
use Rattle.cip_edit.specs.EditedRows.{IsContentFor}
use Rattle.cip_text.specs.Writing.{coordinate}
use Rattle.cip_edit.proofs.lemmas.Fields.{field_written, field_before, field_behind}
use Rattle.cip_edit.proofs.lemmas.Numbers.{decimal_number, integer_read, digits_printed, coordinate_read, coordinate_printed, coordinate_long, coordinate_some, FitsTen, decimal_small}
use Rattle.cip_edit.proofs.lemmas.Written.{written_content, same_content}
use Rattle.cip_edit.specs.Mirror.{mirrored_atom_line, other_code, mirrored_bond_line}
use Rattle.cip_edit.specs.Laws.{MovesAtom, ChangesBond}
use Rattle.cip_edit.proofs.lemmas.AtomLines as atom_lines
use Rattle.cip_edit.proofs.lemmas.AtomLines.{IsAtomLineOf, line_fields}
use Rattle.cip_edit.proofs.lemmas.BondLines as bond_lines
use Rattle.cip_edit.proofs.lemmas.BondLines.{IsFreeBondLine, line_given}

-- an atom line with another z

pub atom_written : (height : ℤ) (line : List ℕ) (given : AtomLine) → Fits 21 30 (coordinate height)
    → unsigned_abs height ≤ 500000000 → atom_of line ≡ Ok given
    → atom_of (with_columns 21 30 (coordinate height) line) ≡ Ok (atom_lines.at_height height given)
atom_written height line given fits small h =
    let text : List ℕ = coordinate height in
    let new : List ℕ = with_columns 21 30 text line in
    let is : IsAtomLineOf line given = line_fields line given h in
    atom_lines.atom_of-is new
    ∙ rw (
      field_before 21 30 1 10 text line (omega arith) (omega arith) (omega arith),
      field_before 21 30 11 20 text line (omega arith) (omega arith) (omega arith),
      field_written 21 30 text line fits,
      field_behind 21 30 32 34 text line fits (omega arith),
      field_behind 21 30 35 36 text line fits (omega arith),
      field_behind 21 30 37 39 text line fits (omega arith),
      field_behind 21 30 49 51 text line fits (omega arith),
      coordinate_read height small,
    ) (is.other height)

pub atom_height : (line : List ℕ) (given : AtomLine) → atom_of line ≡ Ok given
    → decimal4_of (field 21 30 line) ≡ Ok given.atom.at.z
atom_height line given h = (line_fields line given h).z

-- a mirrored atom

fits_height : (height : ℤ) → FitsTen height → unsigned_abs height ≤ 500000000 → Fits 21 30 (coordinate height)
fits_height height fits small = record {
  begins = omega arith;
  some = coordinate_some height;
  few = omega (arith, coordinate_long height fits);
  printed = coordinate_printed height small;
}

written_atom : (z height : ℤ) (line : List ℕ) (given : AtomLine) → height ≡ neg_ℤ z → FitsTen height
    → unsigned_abs height ≤ 500000000 → given.atom.at.z ≡ z → atom_of line ≡ Ok given
    → mirrored_atom_line line ≡ with_columns 21 30 (coordinate height) line
    → MovesAtom mirrored mirrored_atom_line line given
written_atom z height line given negated fits small same h written = record {
  read = ap atom_of written ∙ atom_written height line given (fits_height height fits small) small h
      ∙ ap (λ z. Ok (atom_lines.at_height z given)) (negated ∙ ap neg_ℤ (sym same));
  content = subst (IsContentFor line) (sym written)
      (written_content 21 30 (coordinate height) line (fits_height height fits small) (omega arith));
}

by_height : (z : ℤ) (line : List ℕ) (given : AtomLine) → given.atom.at.z ≡ z → decimal4_of (field 21 30 line) ≡ Ok z
    → int_lt (pos 99999999) z ≡ false → atom_of line ≡ Ok given → MovesAtom mirrored mirrored_atom_line line given
unfolding mirrored_atom_line
by_height (pos zero) line given same read low h =
    let kept : mirrored_atom_line line ≡ line = rw read refl in
    record {
      read = ap atom_of kept ∙ h ∙ ap (λ z. Ok (atom_lines.at_height z given)) (same ∙ ap neg_ℤ (sym same));
      content = subst (IsContentFor line) (sym kept) (same_content line);
    }
by_height (pos (suc n)) line given same read low h =
    let few : suc n ≤ 99999999 = grind (arith, nat_tests) in
    written_atom (pos (suc n)) (negsuc n) line given refl few (omega (arith, few)) same h (rw read refl)
by_height (negsuc n) line given same read low h =
    let few : suc n ≤ 500000000 = decimal_small (field 21 30 line) (negsuc n) read in
    written_atom (negsuc n) (pos (suc n)) line given refl few few same h (rw read refl)

pub atom_mirrored : (line : List ℕ) (given : AtomLine) → int_lt (pos 99999999) given.atom.at.z ≡ false
    → atom_of line ≡ Ok given → MovesAtom mirrored mirrored_atom_line line given
atom_mirrored line given low h =
    by_height given.atom.at.z line given refl (atom_height line given h) low h

-- the number of a stereo field

pub number_read : (most n : ℕ) → n ≤ most → most ≤ 1000000000 → number_in most (decimal n) ≡ Some n
unfolding number_in
number_read most n few low =
    ap (λ read. up_to most (or_zero read))
    (integer_read (decimal n) n (decimal_number n (omega (arith, few, low))) (omega (arith, few, low)))
    ∙ rw (le-leb n most few) refl

-- the other mark

record IsOther (order code : ℕ) (mark : Mark) (new : ℕ) : Type 0 where
  few : new ≤ 6
  is : other_code order code ≡ Some new
  given : mark_of order (Some new) ≡ Some (exchanged mark)

record IsSame (order code : ℕ) (mark : Mark) : Type 0 where
  is : other_code order code ≡ None
  stays : exchanged mark ≡ mark

abbrev Exchanges : ℕ → ℕ → Mark → Type 0
Exchanges order code mark = IsSame order code mark ⊎ ((new : ℕ) × IsOther order code mark new)

some_mark : (one other : Mark) → Some one ≡ Some other → one ≡ other
some_mark one other e = cc

exchange_single : (code : ℕ) (mark : Mark) → mark_of 1 (Some code) ≡ Some mark → Exchanges 1 code mark
exchange_single code mark h = elim (cases_eq code 0) [
  | inl same ↦
      let plain : Plain ≡ mark = some_mark Plain mark (rw same at h) in
      inl (record { is = rw same refl; stays = rw (← plain) refl })
  | inr not_0 ↦ elim (cases_eq code 1) [
    | inl same ↦
        let up : Up ≡ mark = some_mark Up mark (rw same at h) in
        inr (6, record { few = omega arith; is = rw same refl; given = rw (← up) refl })
    | inr not_1 ↦ elim (cases_eq code 4) [
      | inl same ↦
          let either : Either ≡ mark = some_mark Either mark (rw same at h) in
          inl (record { is = rw same refl; stays = rw (← either) refl })
      | inr not_4 ↦ elim (cases_eq code 6) [
        | inl same ↦
            let down : Down ≡ mark = some_mark Down mark (rw same at h) in
            inr (1, record { few = omega arith; is = rw same refl; given = rw (← down) refl })
        | inr not_6 ↦
            absurd (let e = rw (
              ne_eqb code 0 not_0,
              ne_eqb code 1 not_1,
              ne_eqb code 4 not_4,
              ne_eqb code 6 not_6,
            ) at h in cc)
      ]
    ]
  ]
]

exchange_double : (order code : ℕ) (mark : Mark) (zeroth both : Bool) → (order == 1) ≡ false → (code == 0) ≡ zeroth
    → ((order == 2) && (code == 3)) ≡ both → mark_of order (Some code) ≡ Some mark → exchanged mark ≡ mark
exchange_double order code mark true both one e f h =
    let plain : Plain ≡ mark = some_mark Plain mark (rw (e) at h) in rw (← plain) refl
exchange_double order code mark false true one e f h =
    let either : Either ≡ mark = some_mark Either mark (rw (e, one, f) at h) in rw (← either) refl
exchange_double order code mark false false one e f h = absurd (let n = rw (e, one, f) at h in cc)

exchange : (order code : ℕ) (mark : Mark) → mark_of order (Some code) ≡ Some mark → Exchanges order code mark
exchange order code mark h = elim (cases_eq order 1) [
  | inl single ↦ rw single (exchange_single code mark (rw single at h))
  | inr double ↦
      let one : (order == 1) ≡ false = ne_eqb order 1 double in
      inl (record {
        is = rw one refl;
        stays = exchange_double order code mark (code == 0) ((order == 2) && (code == 3)) one refl refl h;
      })
]

-- a bond line with another mark

fits_code : (code : ℕ) → code ≤ 6 → Fits 10 12 (decimal code)
fits_code code few =
    let is = decimal_number code (omega (arith, few)) in
    record {
      begins = omega arith;
      some = is.some;
      few = omega (arith, length-decimal-le 1 code (omega arith) (omega (arith, few)) (omega (arith, few)));
      printed = digits_printed (decimal code) is.digits;
    }

order_number : (number : Option ℕ) (order : ℕ) → order_of number ≡ Some order → number ≡ Some order
order_number None order h = absurd cc
order_number (Some code) order h = by_zero code order (code == 0) refl h
  where
    by_zero : (code order : ℕ) (k : Bool) → (code == 0) ≡ k → order_of (Some code) ≡ Some order
        → Some code ≡ Some order
    by_zero code order true e h = absurd (let n = rw e at h in cc)
    by_zero code order false e h = rw e at h

module _ (atoms : ℕ) (before news : List Bond) (line : List ℕ) (bond : Bond)
    (free : cause_of atoms news (mirrored_bond bond) ≡ None) (h : bond_of atoms before line ≡ Ok bond) where
  is : IsFreeBondLine atoms before line bond
  is = bond_lines.line_fields atoms before line bond h

  bond_same : (code : ℕ) → number_in 6 (field 10 12 line) ≡ Some code → IsSame bond.order code bond.mark
      → mirrored_bond_line line ≡ line → ChangesBond atoms news line (mirrored_bond_line line) (mirrored_bond bond)
  bond_same code read same kept = record {
    read = ap (bond_of atoms news) kept
        ∙ line_given atoms news line (mirrored_bond bond)
        (record {
          a = is.fields.a;
          b = is.fields.b;
          order = is.fields.order;
          mark = is.fields.mark
              ∙ ap Some (sym same.stays);
        }) free;
    content = subst (IsContentFor line) (sym kept) (same_content line);
  }

  bond_written : (code new : ℕ) → IsOther bond.order code bond.mark new
      → mirrored_bond_line line ≡ with_columns 10 12 (decimal new) line
      → ChangesBond atoms news line (mirrored_bond_line line) (mirrored_bond bond)
  bond_written code new other written =
      let text : List ℕ = decimal new in
      let fits : Fits 10 12 text = fits_code new other.few in
      record {
        read = ap (bond_of atoms news) written
            ∙ line_given atoms news (with_columns 10 12 text line) (mirrored_bond bond) (record {
              a = ap (λ text. one_based_index (number_in atoms text))
                  (field_before 10 12 1 3 text line (omega arith) (omega arith) (omega arith)) ∙ is.fields.a;
              b = ap (λ text. one_based_index (number_in atoms text))
                  (field_before 10 12 4 6 text line (omega arith) (omega arith) (omega arith)) ∙ is.fields.b;
              order = ap (λ text. order_of (number_in 3 text))
                  (field_before 10 12 7 9 text line (omega arith) (omega arith) (omega arith)) ∙ is.fields.order;
              mark = ap (λ text. mark_of bond.order (number_in 6 text)) (field_written 10 12 text line fits)
                  ∙ ap (mark_of bond.order) (number_read 6 new other.few (omega arith)) ∙ other.given;
            }) free;
        content = subst (IsContentFor line) (sym written) (written_content 10 12 text line fits (omega arith));
      }

  by_code : (code : Option ℕ) → number_in 6 (field 10 12 line) ≡ code → mark_of bond.order code ≡ Some bond.mark
      → ChangesBond atoms news line (mirrored_bond_line line) (mirrored_bond bond)
  unfolding mirrored_bond_line
  by_code None read mark = absurd cc
  by_code (Some code) read mark =
      let order : number_in 3 (field 7 9 line) ≡ Some bond.order =
      order_number (number_in 3 (field 7 9 line)) bond.order is.fields.order in
      elim (exchange bond.order code bond.mark mark) [
        | inl same ↦ bond_same code read same (rw (order, read, same.is) refl)
        | inr other ↦ bond_written code other.0 other.1 (rw (order, read, other.1.is) refl)
      ]

  pub bond_mirrored : ChangesBond atoms news line (mirrored_bond_line line) (mirrored_bond bond)
  bond_mirrored = by_code (number_in 6 (field 10 12 line)) refl is.fields.mark
