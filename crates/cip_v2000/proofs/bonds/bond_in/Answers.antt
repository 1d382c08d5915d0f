use Rattle.std.proofs.Common.{◌≡◌, ◌≤◌, ℕ, Option, Some, arith, sym}
use Rattle.std.proofs.lemmas.Grind.{common_steps}
use Rattle.cip_mol.specs.Ranges.{IsBond}
use Rattle.cip_mol.specs.declared.graph.molecule.Mark.{Mark}
use Rattle.cip_v2000.specs.BondLine.{mark_of}
use Rattle.cip_v2000.proofs.bonds.bond_in.Goals as goal

in_range : (a b order : ℕ) (code : Option ℕ) (mark : Mark) → 1 ≤ order → order ≤ 3 → mark_of order code ≡ Some mark
    → IsBond (record { a = a; b = b; order = order; mark = mark })
in_range a b order code mark some few is = record {
  some = some;
  few = few;
  double = λ two. grind (arith, common_steps);
  triple = λ three. grind (arith, common_steps);
}

pub check_bond-requires : goal.check_bond-requires
check_bond-requires c =
    in_range _ _ c.in-Some.order c.digit_at-in-Some.result c.in-Some-mark.mark
    c.in-Some.ensures.range.0 c.in-Some.ensures.range.1 (sym c.in-Some-mark.ensures)
