-- Which nodes tie depends only on what ties in the earlier order and which keys are equal.
use Rattle.std.proofs.Common.{◌≡◌, ℕ, zero, suc, ℤ, List, [], ◌∷◌, ◌+◌, refl, sym, ap, ◌∙◌}
use Rattle.std.specs.declared.cmp.Ordering.{Ordering}
use Rattle.std.specs.declared.cmp.Ordering.TheVariants.{Less, Equal, Greater}
use Rattle.std.specs.Cmp.{IsTotalOrder}
use Rattle.std.specs.Ordering.{ordering_then, int_cmp}
use Rattle.cip_rank.specs.Comparison.{sets, comparison}
use Rattle.cip_rank.proofs.lemmas.Descending.{tie, ties_with, sorted_tie, same_from_sorted}
use Rattle.cip_rank.proofs.lemmas.TotalOrder.{comparison_total}

-- what ties in the one order ties in the other
abbrev pub TiesGo : {N : Type 0} → (N → N → Ordering) → (N → N → Ordering) → Type 0
TiesGo {N} compare other = (a b : N) → compare a b ≡ Equal → other a b ≡ Equal

-- two comparisons in turn tie exactly where both do
pub both_tie : (r s : Ordering) → ordering_then r s ≡ Equal → (r ≡ Equal) × (s ≡ Equal)
both_tie Less s h = let bad : Less ≡ Equal = h in cc
both_tie Equal s h = (refl, h)
both_tie Greater s h = let bad : Greater ≡ Equal = h in cc

pub then_tie : (r s : Ordering) → r ≡ Equal → s ≡ Equal → ordering_then r s ≡ Equal
then_tie r s e f = ap (λ q. ordering_then q s) e ∙ f

same_tie : (r s : Ordering) → (r ≡ Equal → s ≡ Equal) → (s ≡ Equal → r ≡ Equal) → tie r ≡ tie s
same_tie Less Less f g = refl
same_tie Less Equal f g = let bad : Less ≡ Equal = g refl in cc
same_tie Less Greater f g = refl
same_tie Equal s f g = sym (ap tie (f refl))
same_tie Greater Less f g = refl
same_tie Greater Equal f g = let bad : Greater ≡ Equal = g refl in cc
same_tie Greater Greater f g = refl

module _ {N : Type 0} (compare other : N → N → Ordering) (there : TiesGo compare other) (back : TiesGo other compare)
  where
    same_ties_with : (n : N) (ms : List N) → ties_with compare n ms ≡ ties_with other n ms
    same_ties_with n [] = refl
    same_ties_with n (m ∷ ms) =
        ap (λ count. count + ties_with compare n ms) (same_tie (compare n m) (other n m) (there n m) (back n m))
        ∙ ap (λ count. tie (other n m) + count) (same_ties_with n ms)

    sets_go : IsTotalOrder compare → IsTotalOrder other → (children : N → List N) → TiesGo (sets children compare)
        (sets children other)
    unfolding sets
    sets_go o p children a b h = sorted_tie p (children a) (children b)
        (λ n. sym (same_ties_with n (children a)) ∙ same_from_sorted o (children a) (children b) h n
        ∙ same_ties_with n (children b))

module _ {N : Type 0} (children : N → List N) {earlier others : N → N → Ordering} (o : IsTotalOrder earlier)
    (p : IsTotalOrder others) (key keys : N → ℤ) where
  pub ties_alone : TiesGo earlier others → TiesGo others earlier
      → ((a b : N) → int_cmp (key a) (key b) ≡ Equal → int_cmp (keys a) (keys b) ≡ Equal)
      → ((a b : N) → int_cmp (keys a) (keys b) ≡ Equal → int_cmp (key a) (key b) ≡ Equal)
      → (depth : ℕ) → TiesGo (comparison children earlier key depth) (comparison children others keys depth)
      × TiesGo (comparison children others keys depth) (comparison children earlier key depth)
  unfolding comparison
  ties_alone there back keys_there keys_back zero = (
    λ a b h. let t = both_tie (earlier a b) (int_cmp (key a) (key b)) h in then_tie _ _ (there a b t.0)
        (keys_there a b t.1),
    λ a b h. let t = both_tie (others a b) (int_cmp (keys a) (keys b)) h in then_tie _ _ (back a b t.0)
        (keys_back a b t.1),
  )
  ties_alone there back keys_there keys_back (suc depth) =
      let before = ties_alone there back keys_there keys_back depth in
      let one = comparison children earlier key depth in
      let other = comparison children others keys depth in
      let one_total = comparison_total children key o depth in
      let other_total = comparison_total children keys p depth in (
        λ a b h. let t = both_tie (one a b) (sets children one a b) h in
            then_tie _ _ (before.0 a b t.0) (sets_go one other before.0 before.1 one_total other_total children a b
            t.1),
        λ a b h. let t = both_tie (other a b) (sets children other a b) h in
            then_tie _ _ (before.1 a b t.0) (sets_go other one before.1 before.0 other_total one_total children a b
            t.1),
      )
