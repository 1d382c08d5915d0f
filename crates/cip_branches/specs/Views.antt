-- Nodes at places, sphere by sphere, and numbers that order those of sphere t as a rule does at depth far - t, where it
-- was taken as far as sphere far. Own.
use Rattle.std.specs.Prelude.{◌≡◌, ◌<◌, ◌≤◌, ◌-◌, ℕ, suc, ℤ, List, [], map, slice_index, IsPermutation}
use Rattle.std.specs.List.{AllByRecursion}
use Rattle.std.specs.Ordering.{on}
use Rattle.std.specs.declared.cmp.Ordering.{Ordering}
use Rattle.cip_rank.specs.Comparison.{comparison}
use Rattle.cip_partition.specs.Rows.{OrdersPlaces}

-- Which places are kept in each sphere, which node each is, and the places of its children, given in each sphere before
-- the last one. Children of a kept place are kept, in whichever order they are.
pub record IsView {N : Type 0} (children : N → List N) (node : ℕ → N) (kids : ℕ → List ℕ) (At : ℕ → ℕ → Type 0)
    (last : ℕ) : Type 0 where
  pub within : (t place : ℕ) → At t place → t ≤ last
  pub next : (t place : ℕ) → t < last → At t place → AllByRecursion (At (suc t)) (kids place)
  pub node_data : (t place : ℕ) → t < last → At t place → IsPermutation (map node (kids place)) (children (node place))

module _ {N : Type 0} (children : N → List N) (earlier : N → N → Ordering) (key : N → ℤ) (node : ℕ → N)
    (At : ℕ → ℕ → Type 0) where
  abbrev pub OrdersSphere : ℕ → ℕ → List ℕ → Type 0
  OrdersSphere t depth numbers = OrdersPlaces (At t) (on node (comparison children earlier key depth)) numbers

  -- the rule was taken as far as a sphere
  pub record Reaches (far : ℕ) (numbers : List ℕ) : Type 0 where
    pub each : (t : ℕ) → t ≤ far → OrdersSphere t (far - t) numbers

  -- spheres further out have their numbers by the earlier order
  pub record AreAhead (far : ℕ) (numbers : List ℕ) : Type 0 where
    pub each : (t : ℕ) → far < t → OrdersPlaces (At t) (on node earlier) numbers

  -- The rule is taken one sphere further: the new sphere has its numbers, all others those of before.
  pub record Begins (far : ℕ) (before numbers : List ℕ) : Type 0 where
    pub new : OrdersSphere (suc far) 0 numbers
    pub kept : (t place : ℕ) → t ≤ far → At t place → slice_index numbers place ≡ slice_index before place
    pub ahead : (t place : ℕ) → suc far < t → At t place → slice_index numbers place ≡ slice_index before place

-- the nodes of the last sphere have no children
pub record IsEnded {N : Type 0} (children : N → List N) (node : ℕ → N) (At : ℕ → ℕ → Type 0) (last : ℕ) : Type 0 where
  pub none : (place : ℕ) → At last place → children (node place) ≡ []
