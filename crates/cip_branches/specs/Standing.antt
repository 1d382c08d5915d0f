-- Branches over whose places one rule follows another: their numbers order nodes as an earlier order does, or as a rule
-- does that was taken as far as a sphere. Own.
use Rattle.std.specs.Prelude.{◌≡◌, ◌≢◌, ◌<◌, ℕ, ℤ, true, List, length, slice_index}
use Rattle.std.specs.List.{AllByRecursion}
use Rattle.std.specs.Ordering.{on}
use Rattle.std.specs.declared.cmp.Ordering.{Ordering}
use Rattle.cip_rank.specs.Comparison.{comparison}
use Rattle.cip_rank.specs.Ranking.{by_number, key_at}
use Rattle.cip_branches.specs.Deciding.{Branched}
use Rattle.cip_partition.specs.Kids.{kids_of}
use Rattle.cip_partition.specs.Parting.{has_flag}
use Rattle.cip_partition.specs.Rows.{OrdersPlaces}
use Rattle.cip_branches.specs.Ruled.{IsWanted}
use Rattle.cip_branches.specs.Turning.{in_sphere}
use Rattle.cip_branches.specs.Views.{IsView, Reaches, AreAhead}

-- the node at a place
abbrev pub node_in : {N : Type 0} → (ℕ → N) → Branched → ℕ → N
node_in named now place = named (slice_index now.layers.place_tree.nodes place)

-- a place of a sphere in a branch that is still unresolved
abbrev pub WantedIn : Branched → ℕ → ℕ → Type 0
WantedIn now t place = IsWanted now.layers now.unresolved t place

-- n keys, by number, are those of the nodes at places of unresolved branches
pub record AreKeysOf {N : Type 0} (named : ℕ → N) (key : N → ℤ) (keys : List ℤ) (now : Branched) : Type 0 where
  pub each : (t place : ℕ) → WantedIn now t place
      → key_at keys (slice_index now.layers.place_tree.nodes place) ≡ key (node_in named now place)

-- Numbers of any two tops, unresolved or dropped, compare as their branches do by an order. Two that tie are
-- unresolved.
pub record AreTold {N : Type 0} (named : ℕ → N) (compare : N → N → Ordering) (now : Branched) : Type 0 where
  pub node_data : (a b : ℕ) → a < length now.unresolved → b < length now.unresolved
      → by_number now.layers.ranked.numbers a b ≡ compare (node_in named now a) (node_in named now b)
  pub tie : (a b : ℕ) → a < length now.unresolved → b < length now.unresolved → a ≢ b
      → slice_index now.layers.ranked.numbers a ≡ slice_index now.layers.ranked.numbers b
      → has_flag now.unresolved a ≡ true

module _ {N : Type 0} (children : N → List N) (named : ℕ → N) where
  -- The places of unresolved branches show nodes with their children. The first places are the tops, one of each
  -- branch.
  pub record AreShown (now : Branched) : Type 0 where
    pub view : IsView children (node_in named now) (kids_of now.layers.place_tree) (WantedIn now) now.last
    pub inherits : (t place : ℕ) → t < now.last → WantedIn now t place
        → AllByRecursion (λ kid. slice_index now.layers.place_tree.branches kid ≡ slice_index now.layers.place_tree.branches place)
        (kids_of now.layers.place_tree place)
    pub top : (k : ℕ) → k < length now.unresolved → in_sphere now.layers.ranked.rows now.layers.starts 0 k
    pub branch : (k : ℕ) → k < length now.unresolved → slice_index now.layers.place_tree.branches k ≡ k

  -- the numbers follow an order, in each sphere
  pub record StandsBy (compare : N → N → Ordering) (now : Branched) : Type 0 where
    pub shown : AreShown now
    pub tops : AreTold named compare now
    pub ordered : (t : ℕ)
        → OrdersPlaces (WantedIn now t) (on (node_in named now) compare) now.layers.ranked.numbers

  -- a rule was taken over an earlier order, as far as a sphere
  pub record IsTaken (earlier : N → N → Ordering) (key : N → ℤ) (far : ℕ) (now : Branched) : Type 0 where
    pub shown : AreShown now
    pub tops : AreTold named (comparison children earlier key far) now
    pub reaches : Reaches children earlier key (node_in named now) (WantedIn now) far now.layers.ranked.numbers
    pub ahead : AreAhead children earlier key (node_in named now) (WantedIn now) far now.layers.ranked.numbers
