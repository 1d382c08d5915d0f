-- What the grammar of V2000 records gives for edited rows. Own.
use Rattle.std.specs.Prelude.{◌≡◌, ◌<◌, ℕ, List, length, map, take, slice_index_or, Ok}
use Rattle.cip_num.specs.declared.plane.Vec3.{Vec3}
use Rattle.cip_mol.specs.Drawing.{Drawing}
use Rattle.cip_mol.specs.declared.graph.molecule.Atom.{Atom}
use Rattle.cip_mol.specs.declared.graph.molecule.Bond.{Bond}
use Rattle.cip_v2000.specs.declared.atoms.AtomLine.{AtomLine}
use Rattle.cip_v2000.specs.AtomLine.{atom_of}
use Rattle.cip_v2000.specs.BondLine.{bond_of}
use Rattle.cip_edit.specs.EditedRows.{IsContentFor}

-- an atom at another place

abbrev pub moved : (Vec3 → Vec3) → Atom → Atom
moved place atom = record atom { at = place atom.at }

abbrev pub moved_line : (Vec3 → Vec3) → AtomLine → AtomLine
moved_line place line = record line { atom = moved place line.atom }

-- the line of an atom gives the atom at its other place
pub record MovesAtom (place : Vec3 → Vec3) (atom : List ℕ → List ℕ) (line : List ℕ) (given : AtomLine) : Type 0 where
  pub read : atom_of (atom line) ≡ Ok (moved_line place given)
  pub content : IsContentFor line (atom line)

-- the line of a bond gives the other bond, after these
pub record ChangesBond (atoms : ℕ) (before : List Bond) (old new : List ℕ) (bond : Bond) : Type 0 where
  pub read : bond_of atoms before new ≡ Ok bond
  pub content : IsContentFor old new

-- edited rows give this molecule's atoms at their other places, and these bonds
pub record GivesRows (molecule : Drawing) (place : Vec3 → Vec3) (bonds : List Bond)
    (atom : List ℕ → List ℕ) (bond : ℕ → List ℕ → List ℕ) : Type 0 where
  pub counted : length bonds ≡ length molecule.bonds
  pub atoms : (k : ℕ) (d : Atom) (line : List ℕ) (given : AtomLine) → k < length molecule.atoms
      → given.atom.at ≡ (slice_index_or molecule.atoms k d).at → atom_of line ≡ Ok given
      → MovesAtom place atom line given
  pub rows : (k : ℕ) (d : Bond) (line : List ℕ) → k < length molecule.bonds
      → bond_of (length molecule.atoms) (take k molecule.bonds) line ≡ Ok (slice_index_or molecule.bonds k d)
      → ChangesBond (length molecule.atoms) (take k bonds) line (bond k line) (slice_index_or bonds k d)

abbrev pub rewritten : Drawing → (Vec3 → Vec3) → List Bond → Drawing
rewritten molecule place bonds = record { atoms = map (moved place) molecule.atoms; bonds = bonds }
