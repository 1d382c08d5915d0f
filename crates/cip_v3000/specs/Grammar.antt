-- The grammar of molfiles of version V3000, joined line after joined line. CTfile Formats, V3000; that the first line
-- with a cause decides is own.
use Rattle.std.specs.Prelude.{ℕ, List, [], ◌∷◌, ◌++◌, ◌+◌, ◌-◌, ◌==◌, ◌||◌, Bool, false, not, length, drop, slice_get, Some, None, Result, Ok, Err, if◌then◌else◌}
use Rattle.std.specs.declared.option.Option.{Option}
use Rattle.std.specs.List.{list_any}
use Rattle.cip_text.specs.Kinds.{is_molecule_end}
use Rattle.cip_mol.specs.Drawing.{Drawing}
use Rattle.cip_mol.specs.declared.graph.molecule.Atom.{Atom}
use Rattle.cip_mol.specs.declared.graph.molecule.Bond.{Bond}
use Rattle.cip_mol.specs.declared.labels.refusal.ReadCause.{ReadCause}
use Rattle.cip_mol.specs.declared.labels.refusal.ReadCause.TheVariants.{Short, Frame}
use Rattle.cip_mol.specs.declared.labels.refusal.ReadFault.{ReadFault}
use Rattle.cip_ctfile.specs.Causes.{guard}
use Rattle.cip_ctfile.specs.Reading.{◌>>=◌, numbered, through}
use Rattle.cip_v3000.specs.AtomLine.{atom_of}
use Rattle.cip_v3000.specs.BondLine.{bond_of}
use Rattle.cip_v3000.specs.CountsLine.{counts_of}
use Rattle.cip_v3000.specs.declared.lines.block_lines.BlockLine.{BlockLine}
use Rattle.cip_v3000.specs.declared.lines.block_lines.BlockLine.TheVariants.{BeginTable, BeginAtoms, EndAtoms, BeginBonds, EndBonds, EndTable}
use Rattle.cip_v3000.specs.Frames.{is_frame}
use Rattle.cip_v3000.specs.JoinedLines.{LogicalLine, JoinedLines, text_of, next_number, logical_lines}
use Rattle.cip_v3000.specs.Words.{words_of}

-- the words of a joined line
abbrev pub words_in : LogicalLine → List (List ℕ)
words_in line = words_of (text_of line)

abbrev pub read_line : {A : Type 0}
    → ReadFault → (List (List ℕ) → Result A ReadCause) → Option LogicalLine → Result A ReadFault
read_line past read None = Err past
read_line past read (Some line) = numbered line.number (read (words_in line))

-- what is read of the words of the joined line at a place, from 0
unfoldable pub read_at : {A : Type 0} → JoinedLines → ℕ → (List (List ℕ) → Result A ReadCause) → Result A ReadFault
read_at joined place read = read_line joined.past read (slice_get joined.lines place)

-- a line that frames a part
abbrev pub frame_at : JoinedLines → ℕ → BlockLine → Result (Unit {0}) ReadFault
frame_at joined place due = read_at joined place (λ words. guard Frame (is_frame due words))

-- the atoms that were read, with their indices
pub record Atoms : Type 0 where
  pub indices : List ℕ
  pub atoms : List Atom

-- the bonds that were read, with their indices
pub record Bonds : Type 0 where
  pub indices : List ℕ
  pub bonds : List Bond

-- a row of the atom block, which follows three lines
abbrev pub atom_row : JoinedLines → Atoms → ℕ → Result Atoms ReadFault
atom_row joined before row = do
  line ← read_at joined (3 + row) (atom_of before.indices)
  Ok (record { indices = before.indices ++ line.index ∷ []; atoms = before.atoms ++ line.atom ∷ [] })

-- a row of the bond block, which begins at this place
abbrev pub bond_row : JoinedLines → List ℕ → ℕ → Bonds → ℕ → Result Bonds ReadFault
bond_row joined atoms first before row = do
  line ← read_at joined (first + row) (bond_of atoms before.indices before.bonds)
  Ok (record { indices = before.indices ++ line.index ∷ []; bonds = before.bonds ++ line.bond ∷ [] })

abbrev pub atom_block : JoinedLines → ℕ → Result Atoms ReadFault
atom_block joined count = through (atom_row joined) (record { indices = []; atoms = [] }) count 0

abbrev pub bond_rows : JoinedLines → List ℕ → ℕ → ℕ → Result Bonds ReadFault
bond_rows joined atoms first count = through (bond_row joined atoms first) (record { indices = []; bonds = [] }) count 0

-- the bond block with its frame, from this place on
abbrev pub framed_bonds : JoinedLines → List ℕ → ℕ → ℕ → Result Bonds ReadFault
framed_bonds joined atoms count place = do
  _ ← frame_at joined place BeginBonds
  bonds ← bond_rows joined atoms (place + 1) count
  _ ← frame_at joined (place + 1 + count) EndBonds
  Ok bonds

abbrev pub begins_bonds : Option LogicalLine → Bool
begins_bonds None = false
begins_bonds (Some line) = is_frame BeginBonds (words_in line)

-- where there are no bonds, their block may be missing
abbrev pub has_bond_block : JoinedLines → ℕ → ℕ → Bool
has_bond_block joined count place = not (count == 0) || begins_bonds (slice_get joined.lines place)

abbrev pub bond_block : JoinedLines → List ℕ → ℕ → ℕ → Result Bonds ReadFault
bond_block joined atoms count place =
    if has_bond_block joined count place then framed_bonds joined atoms count place
    else Ok (record { indices = []; bonds = [] })

-- the place after a bond block that begins at a place, where there is one
abbrev pub behind_block : Bool → ℕ → ℕ → ℕ
behind_block has count place = if has then place + count + 2 else place

-- the number of the line after END CTAB; joined lines before it are passed over
abbrev pub table_end : ReadFault → List LogicalLine → Result ℕ ReadFault
table_end past [] = Err past
table_end past (line ∷ lines) =
    if is_frame EndTable (words_in line) then Ok (next_number line) else table_end past lines

-- from the line of this number on, lines are passed over up to `M  END`
abbrev pub molecule_end : List (List ℕ) → ℕ → Result (Unit {0}) ReadFault
molecule_end lines number =
    numbered (length lines + 1) (guard Short (list_any is_molecule_end (drop (number - 1) lines)))

abbrev pub molecule_in : List (List ℕ) → JoinedLines → Result Drawing ReadFault
molecule_in lines joined = do
  _ ← frame_at joined 0 BeginTable
  counts ← read_at joined 1 counts_of
  _ ← frame_at joined 2 BeginAtoms
  atoms ← atom_block joined counts.atoms
  _ ← frame_at joined (3 + counts.atoms) EndAtoms
  bonds ← bond_block joined atoms.indices counts.bonds (4 + counts.atoms)
  number ← let place : ℕ = 4 + counts.atoms in
      table_end joined.past
      (drop (behind_block (has_bond_block joined counts.bonds place) counts.bonds place) joined.lines)
  _ ← molecule_end lines number
  Ok (record { atoms = atoms.atoms; bonds = bonds.bonds })

-- the molecule of a record's lines before its terminator line, or the first cause at the first line that has one
unfoldable pub molecule_of : List (List ℕ) → Result Drawing ReadFault
molecule_of lines = molecule_in lines (logical_lines lines)
