-- The causes that lines of both versions have alike. CTfile Formats; which further bonds are refused is own.
use Rattle.std.specs.Prelude.{◌≡◌, ℕ, ℤ, ◌==◌, Bool, Some, None, Result, Ok, Err, if◌then◌else◌}
use Rattle.std.specs.declared.option.Option.{Option}
use Rattle.cip_text.specs.declared.numbers.NumberFault.{NumberFault}
use Rattle.cip_mol.specs.Bonds.{cause_of}
use Rattle.cip_mol.specs.Causes.{read_cause}
use Rattle.cip_mol.specs.Connections.{Connections}
use Rattle.cip_mol.specs.declared.graph.molecule.Bond.{Bond}
use Rattle.cip_mol.specs.declared.faults.BondCause.{BondCause}
use Rattle.cip_mol.specs.declared.labels.refusal.ReadCause.{ReadCause}
use Rattle.cip_mol.specs.declared.labels.refusal.ReadCause.TheVariants.{Coordinate}

abbrev pub guard : ReadCause → Bool → Result (Unit {0}) ReadCause
guard cause test = if test then Ok tt else Err cause

abbrev pub coordinate : Result ℤ NumberFault → Result ℤ ReadCause
coordinate (Ok number) = Ok number
coordinate (Err _) = Err Coordinate

-- single, double or triple
abbrev pub order_of : Option ℕ → Option ℕ
order_of None = None
order_of (Some code) = if code == 0 then None else Some code

abbrev pub unless_refused : Bond → Option BondCause → Result Bond ReadCause
unless_refused bond None = Ok bond
unless_refused bond (Some cause) = Err (read_cause cause)

-- no cause holds at a bond that follows these
pub record IsFree (before : Connections) (bond : Bond) : Type 0 where
  pub free : cause_of before.atoms before.bonds bond ≡ None
