-- The same drawing with its atoms and bonds in another order. Own, after CTfile Formats: the narrow end of a mark is
-- the first atom of its bond, so the ends of a marked single bond keep their places.
use Rattle.std.specs.Prelude.{◌≡◌, ◌<◌, ◌+◌, ◌⊎◌, ℕ, map, length, sum, slice_index_or}
use Rattle.std.specs.List.{range_with_len}
use Rattle.std.specs.List.Sorted.{IsPermutation}
use Rattle.cip_rank.specs.Matching.{Matches}
use Rattle.cip_mol.specs.Drawing.{Drawing}
use Rattle.cip_mol.specs.declared.graph.molecule.Atom.{Atom}
use Rattle.cip_mol.specs.declared.graph.molecule.Bond.{Bond}
use Rattle.cip_mol.specs.declared.graph.molecule.Mark.TheVariants.{Plain}
use Rattle.cip_digraph.specs.graph.Hydrogens.{hydrogens_of}

pub record IsForward (image : ℕ → ℕ) (bond other : Bond) : Type 0 where
  pub a : other.a ≡ image bond.a
  pub b : other.b ≡ image bond.b

-- only of a bond without a mark, or a double bond
pub record IsTurned (image : ℕ → ℕ) (bond other : Bond) : Type 0 where
  pub may : (bond.mark ≡ Plain) ⊎ (bond.order ≡ 2)
  pub a : other.a ≡ image bond.b
  pub b : other.b ≡ image bond.a

pub record IsImage (image : ℕ → ℕ) (bond other : Bond) : Type 0 where
  pub order : other.order ≡ bond.order
  pub mark : other.mark ≡ bond.mark
  pub ends : IsForward image bond other ⊎ IsTurned image bond other

-- the number of the vertex that stands for one of an atom's implicit hydrogens, counted from 0
abbrev pub hydrogen_number : Drawing → ℕ → ℕ → ℕ
hydrogen_number drawing atom index =
    length drawing.atoms + sum (map (hydrogens_of drawing) (range_with_len 0 atom)) + index

-- each vertex of a drawing has its image in another one: atoms go to atoms with all their fields, bonds to bonds one to
-- one, and implicit hydrogens follow the atoms that carry them
pub record IsRenumbering (drawing other : Drawing) (image : ℕ → ℕ) : Type 0 where
  pub len : length other.atoms ≡ length drawing.atoms
  pub permutation : IsPermutation (map image (range_with_len 0 (length drawing.atoms)))
      (range_with_len 0 (length drawing.atoms))
  pub atoms : (k : ℕ) → k < length drawing.atoms → (d : Atom) →
      slice_index_or other.atoms (image k) d ≡ slice_index_or drawing.atoms k d
  pub bonds : Matches (IsImage image) drawing.bonds other.bonds
  pub hydrogens : (k index : ℕ) → k < length drawing.atoms → index < hydrogens_of drawing k →
      image (hydrogen_number drawing k index) ≡ hydrogen_number other (image k) index
