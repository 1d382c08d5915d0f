-- Reading group lines: causes, and the lines of faults. Own.
use Rattle.std.specs.Prelude.{ℕ, Some, None, Result, Ok, Err}
use Rattle.std.specs.declared.option.Option.{Option}
use Rattle.cip_ctfile.specs.Refusals.{GivesBy}
use Rattle.cip_stereogroups.specs.declared.faults.GroupCause.{GroupCause}
use Rattle.cip_stereogroups.specs.declared.faults.GroupFault.{GroupFault}
use Rattle.cip_stereogroups.specs.declared.faults.GroupRefusal.{GroupRefusal}
use Rattle.cip_stereogroups.specs.declared.faults.GroupRefusal.TheVariants as refusals

-- the cause of a line, with the line's number from 1
abbrev pub told_at : {A : Type 0} → ℕ → Result A GroupCause → Result A GroupFault
told_at number (Ok x) = Ok x
told_at number (Err cause) = Err (record { line = number; cause = cause })

abbrev pub fault_in : GroupRefusal → Option GroupFault
fault_in (refusals.Fault fault) = Some fault
fault_in refusals.Memory = None

-- what a reader answers, seen in this way, is what was to be read, and its fault is the one there; want of memory
-- says nothing
abbrev pub Gives : {A B : Type 0} → (A → B) → Result A GroupRefusal → Result B GroupFault → Type 0
Gives view answer read = GivesBy fault_in view answer read
