-- A column of flags, one a vertex, by which a set of vertices is asked. Own.
use Rattle.std.specs.Prelude.{◌≡◌, ◌<◌, ℕ, Bool, true, List, length, slice_index_or}
use Rattle.cip_digraph.specs.rings.Alternating.{is_in}

-- the flags of exactly the vertices that are there
pub record AreFlags (vertices : List ℕ) (flags : List Bool) : Type 0 where
  pub each : (vertex : ℕ) → vertex < length flags → (d : Bool) → slice_index_or flags vertex d ≡ is_in vertex vertices

-- the flags of some vertices at most
pub record AreAmong (vertices : List ℕ) (flags : List Bool) : Type 0 where
  pub each : (vertex : ℕ) → vertex < length flags → (d : Bool) → slice_index_or flags vertex d ≡ true
      → is_in vertex vertices ≡ true
