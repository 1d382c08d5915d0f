-- The grammar of molfiles of version V2000, line after line. CTfile Formats; that the first line with a cause decides
-- is own.
use Rattle.std.specs.Prelude.{ℕ, List, [], ◌∷◌, ◌+◌, length, drop, Result, Ok, Err, if◌then◌else◌}
use Rattle.cip_text.specs.Kinds.{is_molecule_end}
use Rattle.cip_mol.specs.Drawing.{Drawing}
use Rattle.cip_mol.specs.declared.graph.molecule.Bond.{Bond}
use Rattle.cip_mol.specs.declared.labels.refusal.ReadCause.TheVariants.{Short, Property}
use Rattle.cip_mol.specs.declared.labels.refusal.ReadFault.{ReadFault}
use Rattle.cip_v2000.specs.declared.atoms.AtomLine.{AtomLine}
use Rattle.cip_v2000.specs.declared.atom_properties.Pair.{Pair}
use Rattle.cip_v2000.specs.declared.counts.CountsLine.{CountsLine}
use Rattle.cip_v2000.specs.AtomLine.{atom_of}
use Rattle.cip_v2000.specs.BondLine.{bond_of}
use Rattle.cip_v2000.specs.CountsLine.{counts_of}
use Rattle.cip_v2000.specs.PropertyLines.{pairs_with}
use Rattle.cip_ctfile.specs.Reading.{◌>>=◌, read_at, in_turn}
use Rattle.cip_v2000.specs.Statements.{settled}

-- a row of the atom block, which follows four lines
abbrev pub atom_row : List (List ℕ) → List AtomLine → ℕ → Result AtomLine ReadFault
atom_row lines before row = read_at lines (4 + row) atom_of

-- a row of the bond block, which follows n rows of the atom block
abbrev pub bond_row : List (List ℕ) → ℕ → List Bond → ℕ → Result Bond ReadFault
bond_row lines atoms before row = read_at lines (4 + atoms + row) (bond_of atoms before)

-- the property lines, of which the first has this number, up to `M  END`; `past` is the number after the last line
unfoldable pub pairs_from : ℕ → ℕ → List Pair → ℕ → List (List ℕ) → Result (List Pair) ReadFault
pairs_from past atoms before number [] = Err (record { line = past; cause = Short })
pairs_from past atoms before number (line ∷ lines) = if is_molecule_end line then Ok before else do
  pairs ← pairs_with (record { line = number; cause = Property }) atoms before line
  pairs_from past atoms pairs (number + 1) lines

-- the property lines after n lines
abbrev pub pairs_behind : ℕ → ℕ → List (List ℕ) → Result (List Pair) ReadFault
pairs_behind atoms place lines = pairs_from (length lines + 1) atoms [] (place + 1) (drop place lines)

-- the molecule of these atom lines and what follows them
abbrev pub behind_atoms : List (List ℕ) → CountsLine → List AtomLine → Result Drawing ReadFault
behind_atoms lines counts atoms = do
  bonds ← in_turn (bond_row lines counts.atoms) [] counts.bonds 0
  pairs ← pairs_behind counts.atoms (4 + (counts.atoms + counts.bonds)) lines
  Ok (record { atoms = settled pairs atoms; bonds = bonds })

-- the molecule of a record's lines before its terminator line, or the first cause at the first line that has one
unfoldable pub molecule_of : List (List ℕ) → Result Drawing ReadFault
molecule_of lines = do
  counts ← read_at lines 3 counts_of
  atoms ← in_turn (atom_row lines) [] counts.atoms 0
  behind_atoms lines counts atoms
