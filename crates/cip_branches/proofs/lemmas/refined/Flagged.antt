-- Flags of the classes of a sphere, and those that are left once its rows are cleared.
use Rattle.std.proofs.Common.{◌≡◌, ◌<◌, ◌≤◌, ◌∙◌, ℕ, Bool, List, true, false, sym, arith, inl, inr}
use Rattle.cip_partition.specs.Parting.{has_flag, FlagClasses, FlagHeads}
use Rattle.cip_partition.specs.Rows.{AreClassed}
use Rattle.cip_partition.specs.Stirring.{NoFlags}
use Rattle.cip_partition.proofs.lemmas.Cases.{cases_flag}

-- a class of two and more begins where it has its flag
pub class_heads : (rows numbers : List ℕ) (from to : ℕ) (flags : List Bool) → AreClassed rows numbers from to
    → FlagClasses rows numbers from to to flags → FlagHeads rows numbers from to flags
class_heads rows numbers from to flags classed flagged = record {
  each = λ row low high has.
      let at = flagged.only row has in
      elim (classed.next row at.0 at.1) [
        | inl same ↦ sym same ∙ at.2
        | inr new ↦ absurd (let here = at.2 in omega (arith, here, new))
      ];
}

pub class_cleared : (rows numbers : List ℕ) (from to : ℕ) (flags cleared : List Bool)
    → FlagClasses rows numbers from to to flags
    → ((row : ℕ) → from ≤ row → row < to → has_flag cleared row ≡ false)
    → ((row : ℕ) → has_flag cleared row ≡ true → has_flag flags row ≡ true) → NoFlags cleared
class_cleared rows numbers from to flags cleared flagged unset fewer = record {
  none = λ row. elim (cases_flag (has_flag cleared row)) [
    | inl has ↦ let at = flagged.only row (fewer row has) in
        unset row at.0 (let next = at.1 in omega (arith, next))
    | inr not ↦ not
  ];
}
