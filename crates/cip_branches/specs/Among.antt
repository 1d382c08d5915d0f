-- Branches of which some are distinguished as an order does: those that were dropped before are left out of account.
-- Own.
use Rattle.std.specs.Prelude.{◌≡◌, ◌≢◌, ◌<◌, ℕ, ℤ, true, List, length, slice_index}
use Rattle.std.specs.List.{AllByRecursion}
use Rattle.std.specs.Ordering.{on}
use Rattle.std.specs.declared.cmp.Ordering.{Ordering}
use Rattle.cip_rank.specs.Comparison.{comparison}
use Rattle.cip_rank.specs.Ranking.{by_number}
use Rattle.cip_branches.specs.Deciding.{Branched}
use Rattle.cip_partition.specs.Kids.{kids_of}
use Rattle.cip_partition.specs.Parting.{has_flag}
use Rattle.cip_partition.specs.Rows.{OrdersPlaces}
use Rattle.cip_branches.specs.Standing.{node_in, WantedIn}
use Rattle.cip_branches.specs.Turning.{in_sphere}
use Rattle.cip_branches.specs.Views.{IsView, Reaches, AreAhead}

-- which branches these are
module _ (Among : ℕ → Type 0) where
  -- Numbers of any two of their tops compare as they do by an order. Two that tie are unresolved.
  pub record AreToldAmong {N : Type 0} (named : ℕ → N) (compare : N → N → Ordering) (now : Branched) : Type 0 where
    pub node_data : (a b : ℕ) → Among a → Among b
        → by_number now.layers.ranked.numbers a b ≡ compare (node_in named now a) (node_in named now b)
    pub tie : (a b : ℕ) → Among a → Among b → a ≢ b
        → slice_index now.layers.ranked.numbers a ≡ slice_index now.layers.ranked.numbers b
        → has_flag now.unresolved a ≡ true

  module _ {N : Type 0} (children : N → List N) (named : ℕ → N) where
    -- the places of unresolved branches show nodes with their children, and these branches have their tops
    pub record AreShownAmong (now : Branched) : Type 0 where
      pub view : IsView children (node_in named now) (kids_of now.layers.place_tree) (WantedIn now) now.last
      pub inherits : (t place : ℕ) → t < now.last → WantedIn now t place
          → AllByRecursion (λ kid. slice_index now.layers.place_tree.branches kid ≡ slice_index now.layers.place_tree.branches place)
          (kids_of now.layers.place_tree place)
      pub top : (k : ℕ) → Among k → in_sphere now.layers.ranked.rows now.layers.starts 0 k
      pub branch : (k : ℕ) → Among k → slice_index now.layers.place_tree.branches k ≡ k
      pub inside : (k : ℕ) → Among k → k < length now.unresolved

    -- the numbers follow an order, in each sphere
    pub record StandsAmong (compare : N → N → Ordering) (now : Branched) : Type 0 where
      pub shown : AreShownAmong now
      pub tops : AreToldAmong named compare now
      pub ordered : (t : ℕ)
          → OrdersPlaces (WantedIn now t) (on (node_in named now) compare) now.layers.ranked.numbers

    -- a rule was taken over an earlier order, as far as a sphere
    pub record IsTakenAmong (earlier : N → N → Ordering) (key : N → ℤ) (far : ℕ) (now : Branched) : Type 0 where
      pub shown : AreShownAmong now
      pub tops : AreToldAmong named (comparison children earlier key far) now
      pub reaches : Reaches children earlier key (node_in named now) (WantedIn now) far now.layers.ranked.numbers
      pub ahead : AreAhead children earlier key (node_in named now) (WantedIn now) far now.layers.ranked.numbers
