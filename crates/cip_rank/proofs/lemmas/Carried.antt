-- An order carried along a map of nodes: lists sort and compare as their images do.
use Rattle.std.proofs.Common.{◌≡◌, List, [], ◌∷◌, true, false, cond, map, refl, ap, ◌∙◌}
use Rattle.std.specs.declared.cmp.Ordering.{Ordering}
use Rattle.std.specs.List.{AllByRecursion}
use Rattle.std.specs.Ordering.{is_lt, ordering_then}
use Rattle.std.specs.Cmp.Lexicographic.{slice_cmp}
use Rattle.cip_rank.specs.Comparison.{insert_down, sorted_down}
use Rattle.cip_rank.proofs.lemmas.Descending.{insert_all}

-- the images of nodes with a property compare as the nodes do
abbrev pub Carries : {N M : Type 0} → (N → Type 0) → (N → M) → (N → N → Ordering) → (M → M → Ordering) → Type 0
Carries {N} P image compare other = (a b : N) → P a → P b → other (image a) (image b) ≡ compare a b

module _ {N M : Type 0} (P : N → Type 0) (image : N → M) (compare : N → N → Ordering) (other : M → M → Ordering)
    (same : Carries P image compare other) where
  insert_carried : (n : N) (ms : List N) → P n → AllByRecursion P ms → insert_down other (image n) (map image ms) ≡ map
      image (insert_down compare n ms)
  insert_carried n [] p all = refl
  insert_carried n (m ∷ ms) p all =
      ap (λ r. cond (is_lt r) (image m ∷ insert_down other (image n) (map image ms)) (image n ∷ image m ∷ map image ms))
      (same n m p all.0)
      ∙ ap (λ rest. cond (is_lt (compare n m)) (image m ∷ rest) (image n ∷ image m ∷ map image ms))
      (insert_carried n ms p all.1)
      ∙ elim (is_lt (compare n m)) as (λ b. cond b (image m ∷ map image (insert_down compare n ms))
      (image n ∷ image m ∷ map image ms)
      ≡ map image (cond b (m ∷ insert_down compare n ms) (n ∷ m ∷ ms))) [ true ↦ refl | false ↦ refl ]

  sorted_meets : (ns : List N) → AllByRecursion P ns → AllByRecursion P (sorted_down compare ns)
  sorted_meets [] all = all
  sorted_meets (n ∷ ns) all = insert_all compare P n (sorted_down compare ns) all.0 (sorted_meets ns all.1)

  sorted_carried : (ns : List N) → AllByRecursion P ns → sorted_down other (map image ns) ≡ map image
      (sorted_down compare ns)
  sorted_carried [] all = refl
  sorted_carried (n ∷ ns) all =
      ap (insert_down other (image n)) (sorted_carried ns all.1) ∙ insert_carried n (sorted_down compare ns) all.0
      (sorted_meets ns all.1)

  lists_carried : (ns ms : List N) → AllByRecursion P ns → AllByRecursion P ms → slice_cmp other (map image ns)
      (map image ms) ≡ slice_cmp compare ns ms
  lists_carried [] [] p q = refl
  lists_carried [] (m ∷ ms) p q = refl
  lists_carried (n ∷ ns) [] p q = refl
  lists_carried (n ∷ ns) (m ∷ ms) p q =
      ap (λ r. ordering_then r (slice_cmp other (map image ns) (map image ms))) (same n m p.0 q.0)
      ∙ ap (ordering_then (compare n m)) (lists_carried ns ms p.1 q.1)

  pub sets_carried : (ns ms : List N) → AllByRecursion P ns → AllByRecursion P ms
      → slice_cmp other (sorted_down other (map image ns)) (sorted_down other (map image ms)) ≡ slice_cmp compare
      (sorted_down compare ns) (sorted_down compare ms)
  sets_carried ns ms p q =
      ap (λ ks. slice_cmp other ks (sorted_down other (map image ms))) (sorted_carried ns p)
      ∙ ap (slice_cmp other (map image (sorted_down compare ns))) (sorted_carried ms q)
      ∙ lists_carried (sorted_down compare ns) (sorted_down compare ms) (sorted_meets ns p) (sorted_meets ms q)
