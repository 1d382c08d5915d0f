-- An atom line by its words: index, symbol, x, y, z, a number that isn't used, keys. CTfile Formats, V3000; that
-- indices are from 1 to 1,000,000,000, and that a mass of 0 leaves D and T as they are, is own.
use Rattle.std.specs.Prelude.{◌≡◌, ℕ, pos, List, [], ◌==◌, ◌||◌, Bool, true, false, nat_eq, nat_lt, length, drop, slice_index_or, Some, None, Result, Ok, Err, ℤ, if◌then◌else◌}
use Rattle.std.specs.declared.option.Option.{Option}
use Rattle.std.specs.Option.{ok_or}
use Rattle.std.specs.List.{list_any}
use Rattle.cip_text.specs.Numbers.{integer_of, decimal4_of}
use Rattle.cip_text.specs.declared.numbers.NumberFault.{NumberFault}
use Rattle.cip_text.specs.declared.numbers.NumberFault.TheVariants.{Empty, NotANumber, OutOfRange}
use Rattle.cip_elem.specs.Symbols.{element_of}
use Rattle.cip_num.specs.declared.plane.Vec3.{Vec3}
use Rattle.cip_mol.specs.Ranges.{IsAtom}
use Rattle.cip_mol.specs.declared.graph.molecule.Atom.{Atom}
use Rattle.cip_mol.specs.declared.labels.refusal.ReadCause.{ReadCause}
use Rattle.cip_mol.specs.declared.labels.refusal.ReadCause.TheVariants.{Symbol, Frame, Index, KeyValue}
use Rattle.cip_ctfile.specs.Causes.{guard, coordinate}
use Rattle.cip_ctfile.specs.Fields.{parse_number}
use Rattle.cip_ctfile.specs.Reading.{◌>>=◌}
use Rattle.cip_v3000.specs.declared.atoms.AtomLine.{AtomLine}
use Rattle.cip_v3000.specs.Keys.{keys_from}

abbrev pub word_at : List (List ℕ) → ℕ → List ℕ
word_at words place = slice_index_or words place []

abbrev pub unless_known : List ℕ → Option ℕ → Result ℕ ReadCause
unless_known known None = Err Index
unless_known known (Some index) = if (index == 0) || list_any (nat_eq index) known then Err Index else Ok index

-- an index that is none of those before it
unfoldable pub new_index : List ℕ → List ℕ → Result ℕ ReadCause
new_index known word = unless_known known (parse_number 1000000000 word)

-- a number of any size
abbrev pub is_number : Result ℤ NumberFault → Bool
is_number (Ok n) = true
is_number (Err Empty) = false
is_number (Err NotANumber) = false
is_number (Err OutOfRange) = true

abbrev pub isotope_of : ℕ → ℕ → ℕ
isotope_of stated mass = if mass == 0 then stated else mass

abbrev pub point_by : Result ℤ ReadCause → Result ℤ ReadCause → Result ℤ ReadCause → Result Vec3 ReadCause
point_by first second third = do
  x ← first
  y ← second
  z ← third
  Ok (record { x = x; y = y; z = z })

-- the point of three words
abbrev pub point_of : List ℕ → List ℕ → List ℕ → Result Vec3 ReadCause
point_of x y z = point_by (coordinate (decimal4_of x)) (coordinate (decimal4_of y)) (coordinate (decimal4_of z))

-- the atom of a symbol at a point, of a number that isn't used, and of key words
unfoldable pub atom_by : List ℕ → Result Vec3 ReadCause → List ℕ → List (List ℕ) → Result Atom ReadCause
atom_by symbol point mapping keys = do
  element ← ok_or (element_of symbol) Symbol
  at ← point
  _ ← guard KeyValue (is_number (integer_of mapping))
  keys ← keys_from (record { charge = pos 0; radical = 0; mass = 0; valence_mark = 0 }) keys
  Ok (record {
    z = element.z;
    isotope = isotope_of element.isotope keys.mass;
    charge = keys.charge;
    radical = keys.radical;
    valence_mark = keys.valence_mark;
    at = at;
  })

-- the atom of a line after lines of these indices
unfoldable pub atom_of : List ℕ → List (List ℕ) → Result AtomLine ReadCause
atom_of known words = do
  _ ← guard Frame (nat_lt 5 (length words))
  index ← new_index known (word_at words 0)
  atom ← let at : Result Vec3 ReadCause = point_of (word_at words 2) (word_at words 3) (word_at words 4) in
      atom_by (word_at words 1) at (word_at words 5) (drop 6 words)
  Ok (record { index = index; atom = atom })

pub record IsAtomLine (known : List ℕ) (line : AtomLine) : Type 0 where
  pub atom : IsAtom line.atom
  pub fresh : list_any (nat_eq line.index) known ≡ false
