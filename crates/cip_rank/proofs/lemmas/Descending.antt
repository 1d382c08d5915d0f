-- Lists that descend: those with the same ties tie place by place, however each was arranged.
use Rattle.std.proofs.Common.{◌≡◌, ℕ, ◌+◌, List, [], ◌∷◌, Bool, true, false, cond, refl, sym, ap, ◌∙◌, arith}
use Rattle.std.specs.declared.cmp.Ordering.{Ordering}
use Rattle.std.specs.declared.cmp.Ordering.TheVariants.{Less, Equal, Greater}
use Rattle.std.specs.Cmp.{IsTotalOrder, IsStrictWeakOrder}
use Rattle.std.specs.List.{AllByRecursion}
use Rattle.std.specs.Ordering.{is_lt, ordering_then, ordering_reverse}
use Rattle.std.specs.Cmp.Lexicographic.{slice_cmp}
use Rattle.std.proofs.lemmas.Cmp.{alike_right, tied_itself}
use Rattle.std.proofs.lemmas.List.Sorted.{ranks_by}
use Rattle.cip_rank.specs.Comparison.{insert_down, sorted_down}

-- no later node is above an earlier one
abbrev pub IsDown : {N : Type 0} → (N → N → Ordering) → List N → Type 0
IsDown compare [] = Unit {0}
IsDown compare (n ∷ ns) = AllByRecursion (λ m. is_lt (compare n m) ≡ false) ns × IsDown compare ns

abbrev pub tie : Ordering → ℕ
tie Less = 0
tie Equal = 1
tie Greater = 0

-- how many nodes of a list tie with a node
abbrev pub ties_with : {N : Type 0} → (N → N → Ordering) → N → List N → ℕ
ties_with compare n [] = 0
ties_with compare n (m ∷ ms) = tie (compare n m) + ties_with compare n ms

-- each node ties with as many of the one list as of the other
abbrev pub SameTies : {N : Type 0} → (N → N → Ordering) → List N → List N → Type 0
SameTies {N} compare ns ms = (n : N) → ties_with compare n ns ≡ ties_with compare n ms

pub all_by : {N : Type 0} {P Q : N → Type 0} → ((n : N) → P n → Q n) → (ns : List N) → AllByRecursion P ns
    → AllByRecursion Q ns
all_by f [] all = all
all_by f (n ∷ ns) all = (f n all.0, all_by f ns all.1)

pub insert_all : {N : Type 0} (compare : N → N → Ordering) (P : N → Type 0) (n : N) (ms : List N) → P n
    → AllByRecursion P ms → AllByRecursion P (insert_down compare n ms)
insert_all compare P n [] p all = (p, all)
insert_all compare P n (m ∷ ms) p all =
    elim (is_lt (compare n m)) as (λ b. AllByRecursion P (cond b (m ∷ insert_down compare n ms) (n ∷ m ∷ ms)))
    [ true ↦ (all.0, insert_all compare P n ms p all.1) | false ↦ (p, all) ]

module _ {N : Type 0} {compare : N → N → Ordering} (o : IsTotalOrder compare) where
  pub weak : IsStrictWeakOrder (λ n m. is_lt (compare n m))
  weak = ranks_by o (λ n. n)

  insert_ties : (k n : N) (ms : List N) → ties_with compare k (insert_down compare n ms) ≡ tie (compare k n) + ties_with
      compare k ms
  insert_ties k n [] = refl
  insert_ties k n (m ∷ ms) =
      elim (is_lt (compare n m)) as (λ b. ties_with compare k (cond b (m ∷ insert_down compare n ms) (n ∷ m ∷ ms)) ≡ tie
      (compare k n) + (tie (compare k m) + ties_with compare k ms))
      [ true ↦ omega (arith, insert_ties k n ms) | false ↦ refl ]

  pub sorted_ties : (ns : List N) → SameTies compare (sorted_down compare ns) ns
  sorted_ties [] k = refl
  sorted_ties (n ∷ ns) k = insert_ties k n (sorted_down compare ns) ∙ ap (λ count. tie (compare k n) + count)
      (sorted_ties ns k)

  insert_is_down_by : (n m : N) (ms : List N) (b : Bool) → is_lt (compare n m) ≡ b → IsDown compare (m ∷ ms)
      → IsDown compare (insert_down compare n ms)
      → IsDown compare (cond b (m ∷ insert_down compare n ms) (n ∷ m ∷ ms))
  insert_is_down_by n m ms true e d rest = (
    insert_all compare (λ k. is_lt (compare m k) ≡ false) n ms
        (weak.one_way n m e) d.0,
    rest,
  )
  insert_is_down_by n m ms false e d rest = ((e, all_by (λ k h. weak.chain n m k e h) ms d.0), d)

  insert_is_down : (n : N) (ms : List N) → IsDown compare ms → IsDown compare (insert_down compare n ms)
  insert_is_down n [] d = (tt, tt)
  insert_is_down n (m ∷ ms) d = insert_is_down_by n m ms (is_lt (compare n m)) refl d (insert_is_down n ms d.1)

  pub sorted_is_down : (ns : List N) → IsDown compare (sorted_down compare ns)
  sorted_is_down [] = tt
  sorted_is_down (n ∷ ns) = insert_is_down n (sorted_down compare ns) (sorted_is_down ns)

  -- nothing after a node ties with what is above that node
  none_ties : (n m : N) → compare n m ≡ Less → (ns : List N) → AllByRecursion (λ k. is_lt (compare n k) ≡ false) ns
      → ties_with compare m ns ≡ 0
  none_ties n m e [] all = refl
  none_ties n m e (k ∷ ks) all =
      let here : (r : Ordering) → compare m k ≡ r → tie r ≡ 0 = elim [
        | Less ↦ λ _. refl
        | Equal ↦ λ h. let bad : true ≡ false = ap is_lt (sym e ∙ alike_right o m k n h) ∙ all.0 in cc
        | Greater ↦ λ _. refl
      ] in
      omega (arith, here (compare m k) refl, none_ties n m e ks all.1)

  heads_tie : (n m : N) (ns ms : List N) (r : Ordering) → compare n m ≡ r → IsDown compare (n ∷ ns)
      → IsDown compare (m ∷ ms) → SameTies compare (n ∷ ns) (m ∷ ms)
      → (SameTies compare ns ms → slice_cmp compare ns ms ≡ Equal) → ordering_then r (slice_cmp compare ns ms) ≡ Equal
  heads_tie n m ns ms Less e dn dm s rest =
      let none : ties_with compare m ns ≡ 0 = none_ties n m e ns dn.0 in
      let itself : tie (compare m m) ≡ 1 = ap tie (tied_itself o m) in
      let other : tie (compare m n) ≡ 0 = ap tie (o.antisymm m n ∙ ap ordering_reverse e) in
      absurd (omega (arith, none, itself, other, s m))
  heads_tie n m ns ms Equal e dn dm s rest =
      rest (λ k. let same : tie (compare k n) ≡ tie (compare k m) = ap tie (alike_right o n m k e) in omega
      (arith, same, s k))
  heads_tie n m ns ms Greater e dn dm s rest =
      let back : compare m n ≡ Less = o.antisymm m n ∙ ap ordering_reverse e in
      let none : ties_with compare n ms ≡ 0 = none_ties m n back ms dm.0 in
      let itself : tie (compare n n) ≡ 1 = ap tie (tied_itself o n) in
      let other : tie (compare n m) ≡ 0 = ap tie e in
      absurd (omega (arith, none, itself, other, s n))

  pub down_tie : (ns ms : List N) → IsDown compare ns → IsDown compare ms → SameTies compare ns ms
      → slice_cmp compare ns ms ≡ Equal
  down_tie [] [] dn dm s = refl
  down_tie [] (m ∷ ms) dn dm s = let itself : tie (compare m m) ≡ 1 = ap tie (tied_itself o m) in
      absurd (omega (arith, itself, s m))
  down_tie (n ∷ ns) [] dn dm s = let itself : tie (compare n n) ≡ 1 = ap tie (tied_itself o n) in
      absurd (omega (arith, itself, s n))
  down_tie (n ∷ ns) (m ∷ ms) dn dm s = heads_tie n m ns ms (compare n m) refl dn dm s (down_tie ns ms dn.1 dm.1)

  heads_same : (n m : N) (ns ms : List N) (r : Ordering) → compare n m ≡ r → ordering_then r (slice_cmp compare ns ms)
      ≡ Equal
      → (slice_cmp compare ns ms ≡ Equal → SameTies compare ns ms) → SameTies compare (n ∷ ns) (m ∷ ms)
  heads_same n m ns ms Less e h rest k = let bad : Less ≡ Equal = h in cc
  heads_same n m ns ms Equal e h rest k =
      let same : tie (compare k n) ≡ tie (compare k m) = ap tie (alike_right o n m k e) in omega (arith, same, rest h k)
  heads_same n m ns ms Greater e h rest k = let bad : Greater ≡ Equal = h in cc

  pub same_from_tied : (ns ms : List N) → slice_cmp compare ns ms ≡ Equal → SameTies compare ns ms
  same_from_tied [] [] h k = refl
  same_from_tied [] (m ∷ ms) h k = let bad : Less ≡ Equal = h in cc
  same_from_tied (n ∷ ns) [] h k = let bad : Greater ≡ Equal = h in cc
  same_from_tied (n ∷ ns) (m ∷ ms) h k = heads_same n m ns ms (compare n m) refl h (same_from_tied ns ms) k

  -- lists that have the same ties are sorted alike, up to ties, and the other way round
  pub sorted_tie : (ns ms : List N) → SameTies compare ns ms → slice_cmp compare (sorted_down compare ns)
      (sorted_down compare ms) ≡ Equal
  sorted_tie ns ms s = down_tie _ _ (sorted_is_down ns) (sorted_is_down ms) (λ k. sorted_ties ns k ∙ s k
      ∙ sym (sorted_ties ms k))

  pub same_from_sorted : (ns ms : List N) → slice_cmp compare (sorted_down compare ns) (sorted_down compare ms) ≡ Equal
      → SameTies compare ns ms
  same_from_sorted ns ms h k = sym (sorted_ties ns k) ∙ same_from_tied _ _ h k ∙ sorted_ties ms k

  -- what descends and has a list's ties is that list sorted, up to ties
  pub down_is_sorted : (ns ds : List N) → IsDown compare ds → SameTies compare ds ns → slice_cmp compare ds
      (sorted_down compare ns) ≡ Equal
  down_is_sorted ns ds d s = down_tie ds (sorted_down compare ns) d (sorted_is_down ns) (λ k. s k
      ∙ sym (sorted_ties ns k))
