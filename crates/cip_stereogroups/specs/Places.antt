-- Where the centres of a record are among its units, and the atoms of a table by their indices. Own.
use Rattle.std.specs.Prelude.{◌≡◌, ℕ, List, Bool, Some, None, nat_eq, position, if◌then◌else◌}
use Rattle.std.specs.declared.option.Option.{Option}
use Rattle.std.specs.HashMap.{HashMap, get}
use Rattle.cip_mol.specs.declared.site.Unit as units
use Rattle.cip_stereogroups.specs.Outcomes.{is_centre_at}

-- each centre is found by its atom, at its place
abbrev pub ArePlaces : {S : Type 0} → HashMap ℕ ℕ S → List units.Unit → Type 0
ArePlaces places all = (atom : ℕ) → get nat_eq places atom ≡ position (is_centre_at atom) all

-- each index is found, at its first place
abbrev pub AreAtoms : {S : Type 0} → HashMap ℕ ℕ S → List ℕ → Type 0
AreAtoms places indices = (index : ℕ) → get nat_eq places index ≡ position (nat_eq index) indices

-- what was found before, and else this place where it passes
abbrev pub or_here : Option ℕ → Bool → ℕ → Option ℕ
or_here (Some found) passes place = Some found
or_here None passes place = if passes then Some place else None
