-- What the grammars of both versions keep. Own.
use Rattle.std.specs.Prelude.{◌≡◌, ◌≤◌, ◌<◌, List, ℕ, ◌+◌, length, take, Result, Err}
use Rattle.cip_mol.specs.declared.labels.refusal.ReadFault.{ReadFault}
use Rattle.cip_mol.specs.declared.labels.refusal.ReadCause.TheVariants.{Short}

-- what is read of the lines of a record, or a fault
abbrev pub Reader : Type 0 → Type 0
Reader A = List (List ℕ) → Result A ReadFault

-- The first n lines decide what is read of a record; one more than it has where more lines are due. `Tells` says at
-- which line a fault is reported if a line decides.
pub record IsDecidedBy {A : Type 0}
    (Tells : List (List ℕ) → ℕ → ℕ → Type 0) (read : Reader A) (lines : List (List ℕ)) (decisive : ℕ) : Type 0 where
  pub within : decisive ≤ length lines + 1
  -- each record with the same first lines is read alike, whatever follows them
  pub kept : (others : List (List ℕ)) → take decisive others ≡ take decisive lines → read others ≡ read lines
  -- no line before the last of them has a cause: the lines before it are only short
  pub before : (k : ℕ) → k < decisive → read (take k lines) ≡ Err (record { line = k + 1; cause = Short })
  -- a fault is reported where the last of them reports it
  pub stated : (fault : ReadFault) → read lines ≡ Err fault → Tells lines fault.line decisive
  -- Short is reported after the record alone
  pub short : (fault : ReadFault) → read lines ≡ Err fault → fault.cause ≡ Short → decisive ≡ length lines + 1

-- the first line with a cause decides
abbrev pub IsDecidedInOrder : {A : Type 0} → (List (List ℕ) → ℕ → ℕ → Type 0) → Reader A → Type 0
IsDecidedInOrder Tells read = (lines : List (List ℕ)) → (decisive : ℕ) × IsDecidedBy Tells read lines decisive
