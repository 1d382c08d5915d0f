-- Places for n items: each number below theirs stands once. Own.
use Rattle.std.specs.Prelude.{ℕ, List}
use Rattle.std.specs.List.{range_with_len}
use Rattle.std.specs.List.Sorted.{IsPermutation}

abbrev pub ArePlaces : ℕ → List ℕ → Type 0
ArePlaces count places = IsPermutation places (range_with_len 0 count)
