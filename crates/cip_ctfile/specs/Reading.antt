-- Reading in turn: fields of a line, lines of a record, rows of a block. Own.
use Rattle.std.specs.Prelude.{ℕ, zero, suc, List, [], ◌∷◌, ◌++◌, ◌+◌, length, slice_get, Some, None, Result, Ok, Err}
use Rattle.std.specs.declared.option.Option.{Option}
use Rattle.cip_mol.specs.declared.labels.refusal.ReadCause.{ReadCause}
use Rattle.cip_mol.specs.declared.labels.refusal.ReadCause.TheVariants.{Short}
use Rattle.cip_mol.specs.declared.labels.refusal.ReadFault.{ReadFault}
use Rattle.cip_mol.specs.declared.labels.refusal.ReadRefusal.{ReadRefusal}
use Rattle.cip_mol.specs.declared.labels.refusal.ReadRefusal.TheVariants as refusals
use Rattle.cip_ctfile.specs.Refusals.{FailsBy, GivesBy}

-- what follows is read only where nothing before it was refused
infixl 10 ◌>>=◌
abbrev pub ◌>>=◌ : {A B E : Type 0} → Result A E → (A → Result B E) → Result B E
(Ok x) >>= next = next x
(Err e) >>= next = Err e

-- the cause of a line, with the line's number from 1
abbrev pub numbered : {A : Type 0} → ℕ → Result A ReadCause → Result A ReadFault
numbered number (Ok x) = Ok x
numbered number (Err cause) = Err (record { line = number; cause = cause })

abbrev pub read_line : {A : Type 0} → ℕ → ℕ → (List ℕ → Result A ReadCause) → Option (List ℕ) → Result A ReadFault
read_line past place read None = numbered past (Err Short)
read_line past place read (Some line) = numbered (place + 1) (read line)

-- what is read of the line at a place, from 0; a line that is due and missing is Short at the number after the last
unfoldable pub read_at : {A : Type 0} → List (List ℕ) → ℕ → (List ℕ → Result A ReadCause) → Result A ReadFault
read_at lines place read = read_line (length lines + 1) place read (slice_get lines place)

-- n steps from this number on: each is read knowing what was read before it
unfoldable pub through : {A E : Type 0} → (A → ℕ → Result A E) → A → ℕ → ℕ → Result A E
through read before zero number = Ok before
through read before (suc count) number = do
  now ← read before number
  through read now count (number + 1)

-- a row after those before it
abbrev pub pushing : {A E : Type 0} → (List A → ℕ → Result A E) → List A → ℕ → Result (List A) E
pushing read before number = do
  row ← read before number
  Ok (before ++ row ∷ [])

-- n rows after those before them: each is read knowing the rows before it, and its number from here on
unfoldable pub in_turn : {A E : Type 0} → (List A → ℕ → Result A E) → List A → ℕ → ℕ → Result (List A) E
in_turn read = through (pushing read)

-- what a reader answers, seen in this way, is what was to be read, and its fault is the one there; want of memory
-- says nothing

abbrev pub fault_in : ReadRefusal → Option ReadFault
fault_in (refusals.Fault fault) = Some fault
fault_in refusals.Memory = None

abbrev pub Fails : {B : Type 0} → ReadRefusal → Result B ReadFault → Type 0
Fails refusal read = FailsBy (fault_in refusal) read

abbrev pub Gives : {A B : Type 0} → (A → B) → Result A ReadRefusal → Result B ReadFault → Type 0
Gives view answer read = GivesBy fault_in view answer read
