-- Bonds that are drawn alike but for marks with their narrow end at one atom. Own.
use Rattle.std.specs.Prelude.{◌≡◌, ◌⊎◌, ℕ, List, true}
use Rattle.cip_rank.specs.Matching.{InPairs}
use Rattle.cip_mol.specs.declared.graph.molecule.Bond.{Bond}
use Rattle.cip_mol.specs.Marks.{is_narrow_at}

-- in the same direction, with another mark at most where its narrow end is the atom
pub record IsRemarked (atom : ℕ) (one other : Bond) : Type 0 where
  pub a : other.a ≡ one.a
  pub b : other.b ≡ one.b
  pub order : other.order ≡ one.order
  pub mark : (other.mark ≡ one.mark) ⊎ (is_narrow_at atom one ≡ true)

abbrev pub AreRemarked : ℕ → List Bond → List Bond → Type 0
AreRemarked atom bonds others = InPairs (IsRemarked atom) bonds others
