-- Lists in another order: a permutation has the same ties, and a sorted list is one.
use Rattle.std.proofs.Common.{◌≡◌, ◌+◌, List, [], ◌∷◌, true, false, cond, refl, sym, ap, ◌∙◌}
use Rattle.std.specs.declared.cmp.Ordering.{Ordering}
use Rattle.std.specs.declared.cmp.Ordering.TheVariants.{Equal}
use Rattle.std.specs.Cmp.{IsTotalOrder}
use Rattle.std.specs.List.{sum_by}
use Rattle.std.specs.List.Sorted.{IsPermutation}
use Rattle.std.specs.Ordering.{is_lt}
use Rattle.std.specs.Cmp.Lexicographic.{slice_cmp}
use Rattle.std.proofs.lemmas.List.Sums.{sum_by-cons}
use Rattle.std.proofs.lemmas.List.Sorted.{
  sum_by-IsPermutation,
  IsPermutation-refl,
  IsPermutation-cons,
  IsPermutation-trans,
  IsPermutation-middle,
}
use Rattle.cip_rank.specs.Comparison.{insert_down, sorted_down}
use Rattle.cip_rank.proofs.lemmas.Descending.{tie, ties_with, SameTies, sorted_tie}

ties_sum : {N : Type 0} (compare : N → N → Ordering) (n : N) (ms : List N) → ties_with compare n ms ≡ sum_by
    (λ m. tie (compare n m)) ms
ties_sum compare n [] = refl
ties_sum compare n (m ∷ ms) = ap (λ count. tie (compare n m) + count) (ties_sum compare n ms)
    ∙ sym (sum_by-cons (λ k. tie (compare n k)) m ms)

pub permuted_ties : {N : Type 0} (compare : N → N → Ordering) (ns ms : List N) → IsPermutation ns ms
    → SameTies compare ns ms
permuted_ties compare ns ms p n = ties_sum compare n ns ∙ sym (sum_by-IsPermutation (λ m. tie (compare n m)) ns ms p)
    ∙ sym (ties_sum compare n ms)

-- in whichever order nodes are, they sort alike up to ties
pub permuted_tie : {N : Type 0} {compare : N → N → Ordering} → IsTotalOrder compare → (ns ms : List N)
    → IsPermutation ns ms
    → slice_cmp compare (sorted_down compare ns) (sorted_down compare ms) ≡ Equal
permuted_tie {N} {compare} o ns ms p = sorted_tie o ns ms (permuted_ties compare ns ms p)

insert_permutes : {N : Type 0} (compare : N → N → Ordering) (n : N) (ms : List N) → IsPermutation (n ∷ ms)
    (insert_down compare n ms)
insert_permutes compare n [] = IsPermutation-refl (n ∷ [])
insert_permutes compare n (m ∷ ms) =
    elim (is_lt (compare n m)) as (λ b. IsPermutation (n ∷ m ∷ ms) (cond b (m ∷ insert_down compare n ms)
    (n ∷ m ∷ ms))) [
      | true ↦ IsPermutation-trans (n ∷ m ∷ ms) (m ∷ n ∷ ms) (m ∷ insert_down compare n ms)
          (IsPermutation-middle (n ∷ []) m ms)
          (IsPermutation-cons m (n ∷ ms) (insert_down compare n ms) (insert_permutes compare n ms))
      | false ↦ IsPermutation-refl (n ∷ m ∷ ms)
    ]

pub sorted_permutes : {N : Type 0} (compare : N → N → Ordering) (ns : List N)
    → IsPermutation ns (sorted_down compare ns)
sorted_permutes compare [] = IsPermutation-refl []
sorted_permutes compare (n ∷ ns) =
    IsPermutation-trans (n ∷ ns) (n ∷ sorted_down compare ns) (insert_down compare n (sorted_down compare ns))
    (IsPermutation-cons n ns (sorted_down compare ns) (sorted_permutes compare ns))
    (insert_permutes compare n (sorted_down compare ns))
