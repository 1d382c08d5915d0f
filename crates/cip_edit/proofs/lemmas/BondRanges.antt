-- Bonds that are read are in range.
use Rattle.std.proofs.Common.{All, ◌≡◌, ◌≤◌, ◌⊎◌, ◌==◌, ℕ, List, Bool, true, false, Option, Some, None, length, take, get_or, refl, ap, arith, inl, inr}
use Rattle.std.proofs.lemmas.Bool.Decides.{nat_tests}
use Rattle.cip_text.specs.Columns.{field}
use Rattle.cip_mol.specs.Drawing.{Drawing}
use Rattle.cip_mol.specs.Ranges.{IsBond}
use Rattle.cip_mol.specs.declared.graph.molecule.Bond.{Bond}
use Rattle.cip_mol.specs.declared.graph.molecule.Mark.{Mark}
use Rattle.cip_mol.specs.declared.graph.molecule.Mark.TheVariants.{Plain, Either}
use Rattle.cip_ctfile.specs.Causes.{order_of}
use Rattle.cip_ctfile.specs.Fields.{number_in}
use Rattle.cip_v2000.specs.BondLine.{mark_of}
use Rattle.cip_edit.proofs.lemmas.BondLines as bond_lines
use Rattle.cip_edit.proofs.lemmas.FewRows.{number_small}
use Rattle.cip_edit.proofs.lemmas.Grammar.{IsMolecule, has_rows}

-- the order of a bond
record IsOrder (order : ℕ) (code : Option ℕ) : Type 0 where
  some : 1 ≤ order
  is : code ≡ Some order

order_is : (code : Option ℕ) (order : ℕ) → order_of code ≡ Some order → IsOrder order code
order_is None order h = absurd cc
order_is (Some code) order h = by (code == 0) refl h
  where
    by : (k : Bool) → (code == 0) ≡ k → order_of (Some code) ≡ Some order → IsOrder order (Some code)
    by true e h = absurd (let none = rw e at h in cc)
    by false e h =
        let same : code ≡ order = let some = rw e at h in cc in
        record { some = grind (arith, nat_tests); is = ap Some same }

-- the marks of bonds that aren't single
double_marks : (code : Option ℕ) (mark : Mark) → mark_of 2 code ≡ Some mark → (mark ≡ Plain) ⊎ (mark ≡ Either)
double_marks None mark h = absurd cc
double_marks (Some code) mark h = by (code == 0) (code == 3) refl refl h
  where
    by : (k l : Bool) → (code == 0) ≡ k → (code == 3) ≡ l → mark_of 2 (Some code) ≡ Some mark
        → (mark ≡ Plain) ⊎ (mark ≡ Either)
    by true l e f h = inl (let some = rw e at h in cc)
    by false true e f h = inr (let some = rw (e, f) at h in cc)
    by false false e f h = absurd (let none = rw (e, f) at h in cc)

triple_marks : (code : Option ℕ) (mark : Mark) → mark_of 3 code ≡ Some mark → mark ≡ Plain
triple_marks None mark h = absurd cc
triple_marks (Some code) mark h = by (code == 0) refl h
  where
    by : (k : Bool) → (code == 0) ≡ k → mark_of 3 (Some code) ≡ Some mark → mark ≡ Plain
    by true e h = let some = rw e at h in cc
    by false e h = absurd (let none = rw e at h in cc)

bond_in_range : (atoms : ℕ) (line : List ℕ) (bond : Bond) → bond_lines.IsBondLineOf atoms line bond → IsBond bond
bond_in_range atoms line bond is =
    let order : IsOrder bond.order (number_in 3 (field 7 9 line)) = order_is (number_in 3 (field 7 9 line)) bond.order is.order in
    record {
      some = order.some;
      few = number_small 3 bond.order (field 7 9 line) order.is;
      double = λ two. double_marks (number_in 6 (field 10 12 line)) bond.mark (rw two at is.mark);
      triple = λ three. triple_marks (number_in 6 (field 10 12 line)) bond.mark (rw three at is.mark);
    }

pub bonds_in_range : (lines : List (List ℕ)) (molecule : Drawing) → IsMolecule lines molecule
    → All IsBond molecule.bonds
bonds_in_range lines molecule m = λ k d lt.
    let one = (has_rows lines molecule m).bond k d lt in
    bond_in_range (length molecule.atoms) one.line (get_or molecule.bonds k d)
    (bond_lines.line_fields (length molecule.atoms) (take k molecule.bonds) one.line (get_or molecule.bonds k d)
    one.gives).fields
