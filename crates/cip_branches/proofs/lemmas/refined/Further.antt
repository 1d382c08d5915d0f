-- A rule taken one sphere further begins with the new sphere, by keys.
use Rattle.std.proofs.Common.{◌≡◌, ◌≢◌, ◌<◌, ℕ, ℤ, suc, List, slice_index, ap, ◌∙◌, arith}
use Rattle.std.specs.declared.cmp.Ordering.{Ordering}
use Rattle.std.specs.Ordering.{int_cmp, then_cmp, on, ordering_then}
use Rattle.cip_rank.specs.Comparison.{comparison}
use Rattle.cip_rank.specs.Ranking.{by_number}
use Rattle.cip_partition.specs.Rows.{OrdersPlaces}
use Rattle.cip_branches.specs.Views.{AreAhead, Begins}
use Rattle.cip_branches.proofs.lemmas.refined.KidSets.{moved}

module _ {N : Type 0} (children : N → List N) (earlier : N → N → Ordering) (key : N → ℤ) (node : ℕ → N)
    (At : ℕ → ℕ → Type 0) (far : ℕ) (before : List ℕ) where
  -- the new sphere, by keys where places tie in the earlier order
  pub begun : (new : List ℕ) → AreAhead children earlier key node At far before
      → OrdersPlaces (At (suc far)) (then_cmp (by_number before) (on node (on key int_cmp))) new
      → ((t place : ℕ) → t ≢ suc far → At t place → slice_index new place ≡ slice_index before place)
      → Begins children earlier key node At far before new
  unfolding comparison
  begun new ahead by others = record {
    new = record {
      each = λ a b p q. by.each a b p q
          ∙ ap (λ r. ordering_then r (int_cmp (key (node a)) (key (node b))))
          ((ahead.each (suc far) (omega arith)).each a b p q);
    };
    kept = λ t place low p. others t place (λ e. absurd (omega (arith, e, low))) p;
    ahead = λ t place high p. others t place (λ e. absurd (omega (arith, e, high))) p;
  }

  -- spheres further out still have their numbers by the earlier order
  pub still_ahead : (start now : List ℕ) → Begins children earlier key node At far before start
      → ((t place : ℕ) → far < t → At t place → slice_index now place ≡ slice_index start place)
      → AreAhead children earlier key node At far before → AreAhead children earlier key node At (suc far) now
  still_ahead start now begins outside ahead = record {
    each = λ t lt. moved (At t) (on node earlier) before now
        (λ place p. outside t place (omega (arith, lt)) p ∙ begins.ahead t place lt p)
        (ahead.each t (omega (arith, lt)));
  }
