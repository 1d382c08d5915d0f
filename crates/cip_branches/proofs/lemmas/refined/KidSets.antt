-- The sets of children's numbers, and the sets of children that they stand for.
use Rattle.std.proofs.Common.{◌≡◌, ◌<◌, ℕ, suc, List, map, slice_index, refl, sym, ap, ◌∙◌}
use Rattle.std.specs.declared.cmp.Ordering.{Ordering}
use Rattle.std.specs.declared.cmp.Ordering.TheVariants.{Less, Equal, Greater}
use Rattle.std.specs.Cmp.{IsTotalOrder}
use Rattle.std.specs.Ordering.{nat_cmp, on, ordering_then}
use Rattle.std.specs.Cmp.Lexicographic.{slice_cmp}
use Rattle.std.proofs.lemmas.Cmp.{alike_right, lists_total, tied_itself, nat_cmp_total}
use Rattle.cip_rank.specs.Comparison.{sorted_down, sets}
use Rattle.cip_rank.specs.Ranking.{by_number}
use Rattle.cip_rank.proofs.lemmas.Carried.{sets_carried}
use Rattle.cip_rank.proofs.lemmas.NumberedNodes.{equal_is}
use Rattle.cip_rank.proofs.lemmas.Permuted.{permuted_tie}
use Rattle.cip_partition.specs.Kids.{kid_set, by_kids, AreCalm}
use Rattle.cip_partition.specs.Rows.{OrdersPlaces}
use Rattle.cip_branches.specs.Views.{IsView}

-- numbers that are the same order alike
pub moved : (P : ℕ → Type 0) (compare : ℕ → ℕ → Ordering) (old new : List ℕ)
    → ((place : ℕ) → P place → slice_index new place ≡ slice_index old place)
    → OrdersPlaces P compare old → OrdersPlaces P compare new
moved P compare old new same orders = record {
  each = λ a b p q.
      ap (λ n. nat_cmp n (slice_index new b)) (same a p) ∙ ap (nat_cmp (slice_index old a)) (same b q)
      ∙ orders.each a b p q;
}

-- where places that tie have the same sets, the numbers order by sets too
pub still_ordered : (kids : ℕ → List ℕ) (P Calm : ℕ → Type 0) (numbers : List ℕ) → AreCalm kids P Calm numbers
    → ((place : ℕ) → P place → Calm (slice_index numbers place)) → OrdersPlaces P (by_kids kids numbers) numbers
still_ordered kids P Calm numbers calm all = record {
  each = λ a b p q.
      let by_sets = slice_cmp nat_cmp (kid_set kids numbers a) (kid_set kids numbers b) in
      elim (by_number numbers a b) as (λ r. by_number numbers a b ≡ r → r ≡ ordering_then r by_sets) [
        | Less ↦ λ _. refl
        | Equal ↦ λ is.
            let tie = equal_is (slice_index numbers a) (slice_index numbers b) is in
            sym (ap (λ ns. slice_cmp nat_cmp ns (kid_set kids numbers b)) (calm.same a b p q tie (all a p))
            ∙ tied_itself (lists_total nat_cmp_total) (kid_set kids numbers b))
        | Greater ↦ λ _. refl
      ] refl;
}

module _ {N : Type 0} (children : N → List N) (node : ℕ → N) (kids : ℕ → List ℕ) (At : ℕ → ℕ → Type 0) (last : ℕ)
    (view : IsView children node kids At last) where
  -- the sets of children compare as their places do
  pub sets_of_kids : (compare : N → N → Ordering) → IsTotalOrder compare → (t a b : ℕ) → t < last → At t a → At t b
      → slice_cmp (on node compare) (sorted_down (on node compare) (kids a)) (sorted_down (on node compare) (kids b))
      ≡ sets children compare (node a) (node b)
  unfolding sets
  sets_of_kids compare total t a b lt p q =
      let lists = lists_total total in
      let at_a : slice_cmp compare (sorted_down compare (map node (kids a)))
      (sorted_down compare (children (node a))) ≡ Equal =
      permuted_tie total _ _ (view.node_data t a lt p) in
      let at_b : slice_cmp compare (sorted_down compare (map node (kids b)))
      (sorted_down compare (children (node b))) ≡ Equal =
      permuted_tie total _ _ (view.node_data t b lt q) in
      sym (sets_carried (At (suc t)) node (on node compare) compare (λ x y hx hy. refl) (kids a) (kids b)
      (view.next t a lt p) (view.next t b lt q))
      ∙ lists.congr _ _ _ at_a ∙ alike_right lists _ _ _ at_b

  pub sets_are : (compare : N → N → Ordering) → IsTotalOrder compare → (numbers : List ℕ) (t a b : ℕ) → t < last
      → OrdersPlaces (At (suc t)) (on node compare) numbers → At t a → At t b
      → slice_cmp nat_cmp (kid_set kids numbers a) (kid_set kids numbers b) ≡ sets children compare (node a) (node b)
  sets_are compare total numbers t a b lt orders p q =
      sets_carried (At (suc t)) (slice_index numbers) (on node compare) nat_cmp (λ x y hx hy. orders.each x y hx hy)
      (kids a) (kids b) (view.next t a lt p) (view.next t b lt q)
      ∙ sets_of_kids compare total t a b lt p q
