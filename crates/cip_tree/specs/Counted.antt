-- A count, where it is below 2^32. Own.
use Rattle.std.specs.Prelude.{◌≡◌, ◌≤◌, ◌^◌, ℕ, None, Some}
use Rattle.std.specs.declared.option.Option.{Option}

abbrev pub IsCounted : ℕ → Option ℕ → Type 0
IsCounted count None = 2 ^ 32 ≤ count
IsCounted count (Some number) = number ≡ count
