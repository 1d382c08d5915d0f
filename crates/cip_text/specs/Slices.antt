-- What slices of bytes hold. Own.
use Rattle.std.specs.Prelude.{ℕ, List, map}
use Rattle.std.specs.Borrow.{Bor}

abbrev pub texts : List (Bor (List ℕ)) → List (List ℕ)
texts slices = map (λ slice. slice.now) slices
