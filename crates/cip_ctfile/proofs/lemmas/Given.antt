-- What was read before, where nothing was refused.
use Rattle.std.proofs.Common.{◌≡◌, ◌+◌, ℕ, zero, suc, List, Result, Ok, Err, Option, Some, None, refl, ap, subst, arith}
use Rattle.std.specs.Prelude.{slice_get}
use Rattle.cip_mol.specs.declared.faults.BondCause.{BondCause}
use Rattle.cip_mol.specs.declared.graph.molecule.Bond.{Bond}
use Rattle.cip_mol.specs.declared.labels.refusal.ReadCause.{ReadCause}
use Rattle.cip_ctfile.specs.Causes.{unless_refused}
use Rattle.cip_ctfile.specs.Reading.{◌>>=◌, numbered, read_line, read_at, through}

abbrev given : {A E : Type 0} → A → Result A E
given x = Ok x

pub same_given : {A E : Type 0} (x y : A) → given {E = E} x ≡ given y → x ≡ y
same_given x y h = cc

-- this was read, and what follows it gives that
pub record IsGiven {A B E : Type 0} (read : Result A E) (next : A → Result B E) (y : B) : Type 0 where
  pub was : A
  pub read_as : read ≡ Ok was
  pub gives : next was ≡ Ok y

pub given_of : {A B E : Type 0} (read : Result A E) (next : A → Result B E) (y : B) → (read >>= next) ≡ Ok y
    → IsGiven read next y
given_of (Ok x) next y h = record { was = x; read_as = refl; gives = h }
given_of (Err fault) next y h = absurd cc

pub numbered_given : {A : Type 0} (number : ℕ) (read : Result A ReadCause) (x : A) → numbered number read ≡ Ok x
    → read ≡ Ok x
numbered_given number (Ok y) x h = let same : y ≡ x = cc in ap given same
numbered_given number (Err cause) x h = absurd cc

-- the line that something was read of
pub record IsOfSome {A : Type 0} (read : List ℕ → Result A ReadCause) (x : A) : Type 0 where
  pub line : List ℕ
  pub gives : read line ≡ Ok x

line_given : {A : Type 0} (past place : ℕ) (read : List ℕ → Result A ReadCause) (line : Option (List ℕ)) (x : A)
    → read_line past place read line ≡ Ok x → IsOfSome read x
line_given past place read None x h = absurd cc
line_given past place read (Some line) x h =
    record { line = line; gives = numbered_given (place + 1) (read line) x h }

pub given_at : {A : Type 0} (lines : List (List ℕ)) (place : ℕ) (read : List ℕ → Result A ReadCause) (x : A)
    → read_at lines place read ≡ Ok x → IsOfSome read x
unfolding read_at
given_at lines place read x h = line_given _ place read (slice_get lines place) x h

-- a bond that isn't refused has no cause
pub record IsUnrefused (bond given : Bond) (cause : Option BondCause) : Type 0 where
  pub same : bond ≡ given
  pub none : cause ≡ None

pub unrefused : (bond given : Bond) (cause : Option BondCause) → unless_refused bond cause ≡ Ok given
    → IsUnrefused bond given cause
unrefused bond given None h = record { same = same_given bond given h; none = refl }
unrefused bond given (Some cause) h = absurd cc

-- what holds at first and is kept by each step holds at last
pub kept_through : {A E : Type 0} (P : ℕ → A → Type 0) (read : A → ℕ → Result A E)
    → ((before : A) (number : ℕ) (now : A) → P number before → read before number ≡ Ok now → P (number + 1) now)
    → (before : A) (count number : ℕ) (last : A) → P number before → through read before count number ≡ Ok last
    → P (number + count) last
unfolding through
kept_through P read step before zero number last p h =
    let none : number + 0 ≡ number = omega arith in
    rw none (subst (P number) (same_given before last h) p)
kept_through P read step before (suc count) number last p h =
    let first = given_of (read before number) (λ now. through read now count (number + 1)) last h in
    let place : number + 1 + count ≡ number + suc count = omega arith in
    rw place at (kept_through P read step first.was count (number + 1) last
    (step before number first.was p first.read_as) first.gives)
