-- A bond line by its words: index, type, the indices of its two atoms, keys. CTfile Formats, V3000; which further
-- bonds are refused is own.
use Rattle.std.specs.Prelude.{◌≡◌, ◌⊎◌, false, ℕ, List, ◌==◌, ◌&&◌, nat_eq, nat_lt, length, drop, codes, position, Some, None, Result, Ok, if◌then◌else◌}
use Rattle.std.specs.declared.option.Option.{Option}
use Rattle.std.specs.Option.{ok_or}
use Rattle.std.specs.List.{list_any}
use Rattle.std.specs.Str.{bytes_eq}
use Rattle.cip_mol.specs.Bonds.{cause_of}
use Rattle.cip_mol.specs.Connections.{Connections}
use Rattle.cip_mol.specs.Ranges.{IsBond}
use Rattle.cip_mol.specs.declared.graph.molecule.Bond.{Bond}
use Rattle.cip_mol.specs.declared.graph.molecule.Mark.{Mark}
use Rattle.cip_mol.specs.declared.graph.molecule.Mark.TheVariants.{Plain, Up, Down, Either}
use Rattle.cip_mol.specs.declared.labels.refusal.ReadCause.{ReadCause}
use Rattle.cip_mol.specs.declared.labels.refusal.ReadCause.TheVariants.{BondEnd, BondType, BondMark, Frame, KeyValue}
use Rattle.cip_ctfile.specs.Causes.{guard, order_of, unless_refused, IsFree}
use Rattle.cip_ctfile.specs.Fields.{parse_number}
use Rattle.cip_ctfile.specs.Reading.{◌>>=◌}
use Rattle.cip_v3000.specs.declared.bonds.BondLine.{BondLine}
use Rattle.cip_v3000.specs.AtomLine.{new_index, word_at}
use Rattle.cip_ctfile.specs.Turns.{over}
use Rattle.cip_v3000.specs.Words.{keyed}

-- the value of CFG of a single, a double or a triple bond
abbrev pub mark_of : ℕ → Option ℕ → Option Mark
mark_of order None = None
mark_of order (Some code) =
    if code == 0 then Some Plain
    else if (order == 1) && (code == 1) then Some Up
    else if (order == 1) && (code == 2) then Some Either
    else if (order == 1) && (code == 3) then Some Down
    else if (order == 2) && (code == 2) then Some Either
    else None

abbrev pub marked : ℕ → Mark → List ℕ × List ℕ → Result Mark ReadCause
marked order mark word =
    if bytes_eq word.0 (codes "CFG") then ok_or (mark_of order (parse_number 3 word.1)) BondMark else Ok mark

-- what a bond of an order may be marked with
pub record IsMark (order : ℕ) (mark : Mark) : Type 0 where
  pub double : order ≡ 2 → (mark ≡ Plain) ⊎ (mark ≡ Either)
  pub triple : order ≡ 3 → mark ≡ Plain

-- a key word after those before it
unfoldable pub with_mark : ℕ → Mark → List ℕ → Result Mark ReadCause
with_mark order mark word = do
  parts ← ok_or (keyed word) KeyValue
  marked order mark parts

abbrev pub place_of : List ℕ → Option ℕ → Option ℕ
place_of indices None = None
place_of indices (Some index) = position (nat_eq index) indices

-- the place, from 0, of the atom that a word names by its index
unfoldable pub place_named : List ℕ → List ℕ → Option ℕ
place_named indices word = place_of indices (parse_number 1000000000 word)

-- the bond of an order between the atoms of two indices, and of key words
unfoldable pub bond_by : List ℕ → Option ℕ → Option ℕ → Option ℕ → List (List ℕ) → Result Bond ReadCause
bond_by atoms order first second keys = do
  order ← ok_or (order_of order) BondType
  a ← ok_or (place_of atoms first) BondEnd
  b ← ok_or (place_of atoms second) BondEnd
  mark ← over (with_mark order) Plain keys
  Ok (record { a = a; b = b; order = order; mark = mark })

-- the bond of a line, among atoms of these indices and after bonds of those
unfoldable pub bond_of : List ℕ → List ℕ → List Bond → List (List ℕ) → Result BondLine ReadCause
bond_of atoms known before words = do
  _ ← guard Frame (nat_lt 3 (length words))
  index ← new_index known (word_at words 0)
  drawn ← bond_by atoms (parse_number 3 (word_at words 1)) (parse_number 1000000000 (word_at words 2))
      (parse_number 1000000000 (word_at words 3)) (drop 4 words)
  bond ← unless_refused drawn (cause_of (length atoms) before drawn)
  Ok (record { index = index; bond = bond })

pub record IsBondLine (known : List ℕ) (before : Connections) (line : BondLine) : Type 0 where
  pub bond : IsBond line.bond
  pub free : IsFree before line.bond
  pub fresh : list_any (nat_eq line.index) known ≡ false
