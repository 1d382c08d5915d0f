-- Blocks in memory, as contracts see them. Own.
use Rattle.std.specs.Prelude.{◌≡◌, ℕ, [], All, length}
use Rattle.cip_mol.specs.Ranges.{IsAtom, IsBond}
use Rattle.cip_v3000.specs.declared.blocks.AtomBlock.{AtomBlock}
use Rattle.cip_v3000.specs.declared.blocks.BondBlock.{BondBlock}
use Rattle.cip_v3000.specs.Grammar.{Atoms, Bonds}

abbrev pub seen_atoms : AtomBlock → Atoms
seen_atoms block = record { indices = block.indices; atoms = block.atoms.items }

abbrev pub seen_bonds : BondBlock → Bonds
seen_bonds block = record { indices = block.indices; bonds = block.bonds.bonds }

-- n atoms in range, each with an index
pub record AreAtoms (count : ℕ) (block : AtomBlock) : Type 0 where
  pub range : All IsAtom block.atoms.items
  pub counted : length block.atoms.items ≡ count
  pub indexed : length block.indices ≡ count

-- n bonds in range, among n atoms
pub record AreBonds (atoms count : ℕ) (block : BondBlock) : Type 0 where
  pub among : block.bonds.atoms ≡ atoms
  pub range : All IsBond block.bonds.bonds
  pub counted : length block.bonds.bonds ≡ count

-- no bonds yet, among n atoms
pub record HasNoBonds (atoms : ℕ) (block : BondBlock) : Type 0 where
  pub none : seen_bonds block ≡ record { indices = []; bonds = [] }
  pub among : block.bonds.atoms ≡ atoms
