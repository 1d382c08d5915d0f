-- No line is refused as Short: that cause is for missing lines alone.
use Rattle.std.proofs.Common.{◌≡◌, ◌≢◌, ℤ, Result, Ok, Err, Option, Some, None, Bool, true, false, ap, arith}
use Rattle.std.specs.Option.{ok_or}
use Rattle.cip_text.specs.declared.numbers.NumberFault.{NumberFault}
use Rattle.cip_mol.specs.declared.faults.BondCause.{BondCause}
use Rattle.cip_mol.specs.declared.graph.molecule.Bond.{Bond}
use Rattle.cip_mol.specs.declared.labels.refusal.ReadCause.{ReadCause}
use Rattle.cip_mol.specs.declared.labels.refusal.ReadCause.TheVariants.{Short}
use Rattle.cip_mol.specs.Causes.{read_cause}
use Rattle.cip_ctfile.specs.Causes.{coordinate, guard, unless_refused}
use Rattle.cip_ctfile.specs.Reading.{◌>>=◌}

pub record IsOfLine {A : Type 0} (read : Result A ReadCause) : Type 0 where
  pub never : read ≡ Err Short → ⊥

pub given_is : {A : Type 0} (x : A) → IsOfLine (Ok x)
given_is x = record { never = λ e. absurd cc }

pub cause_is : {A : Type 0} (cause : ReadCause) → cause ≢ Short → IsOfLine {A = A} (Err cause)
cause_is cause other = record { never = λ e. other (let same : cause ≡ Short = cc in same) }

pub ok_or_is : {A : Type 0} (given : Option A) (cause : ReadCause) → cause ≢ Short → IsOfLine (ok_or given cause)
ok_or_is (Some x) cause other = given_is x
ok_or_is None cause other = cause_is cause other

pub then_is : {A B : Type 0} {read : Result A ReadCause} {next : A → Result B ReadCause}
    → IsOfLine read → ((x : A) → IsOfLine (next x)) → IsOfLine (read >>= next)
then_is {read = Ok x} first each = each x
then_is {read = Err cause} first each =
    record { never = λ e. first.never (let same : cause ≡ Short = cc in ap (λ c. Err c) same) }

pub coordinate_is : (number : Result ℤ NumberFault) → IsOfLine (coordinate number)
coordinate_is (Ok number) = given_is number
coordinate_is (Err fault) = record { never = λ e. absurd cc }

pub guard_is : (cause : ReadCause) → cause ≢ Short → (test : Bool) → IsOfLine (guard cause test)
guard_is cause other true = given_is tt
guard_is cause other false = cause_is cause other

-- a bond is refused by a cause of its own
bond_cause : (cause : BondCause) → read_cause cause ≢ Short
bond_cause cause e = grind (arith, e)

pub unless_refused_is : (bond : Bond) (cause : Option BondCause) → IsOfLine (unless_refused bond cause)
unless_refused_is bond None = given_is bond
unless_refused_is bond (Some cause) = cause_is (read_cause cause) (bond_cause cause)
