-- What a reader answers that may also be refused memory. Own.
use Rattle.std.specs.Prelude.{◌≡◌, Some, None, Result, Ok, Err}
use Rattle.std.specs.declared.option.Option.{Option}

-- the fault of a refusal is the one there; a refusal without a fault, which is want of memory, says nothing
abbrev pub FailsBy : {B F : Type 0} → Option F → Result B F → Type 0
FailsBy (Some fault) read = read ≡ Err fault
FailsBy None read = Unit {0}

-- what is answered, seen in this way, is what was to be read; a refusal is seen by its fault
abbrev pub GivesBy : {A B R F : Type 0} → (R → Option F) → (A → B) → Result A R → Result B F → Type 0
GivesBy fault_in view (Ok x) read = read ≡ Ok (view x)
GivesBy fault_in view (Err refusal) read = FailsBy (fault_in refusal) read
