-- Where the branches end, their numbers are those of each further depth, and the next rule starts from them.
use Rattle.std.proofs.Common.{◌≡◌, ◌≢◌, ◌<◌, ◌≤◌, ◌+◌, ◌-◌, ℕ, ℤ, zero, suc, List, [], map, slice_index, refl, sym, ap, ◌∙◌, subst, arith}
use Rattle.std.specs.declared.cmp.Ordering.{Ordering}
use Rattle.std.specs.declared.cmp.Ordering.TheVariants.{Less, Equal, Greater}
use Rattle.std.specs.Cmp.{IsTotalOrder}
use Rattle.std.specs.Ordering.{int_cmp, then_cmp, on, ordering_then}
use Rattle.std.specs.Cmp.Lexicographic.{slice_cmp}
use Rattle.std.proofs.lemmas.List.{map-id}
use Rattle.cip_rank.specs.Comparison.{sorted_down, sets, comparison}
use Rattle.cip_rank.specs.Ranking.{by_number}
use Rattle.cip_rank.proofs.lemmas.Carried.{sets_carried}
use Rattle.cip_rank.proofs.lemmas.TotalOrder.{comparison_total}
use Rattle.cip_rank.proofs.lemmas.ExtendedOrder.{then_equal}
use Rattle.cip_partition.specs.Rows.{OrdersPlaces}
use Rattle.cip_branches.specs.Views.{IsView, IsEnded, OrdersSphere, Reaches, AreAhead}
use Rattle.cip_branches.proofs.lemmas.refined.KidSets.{moved, sets_of_kids}

pub twice : (r s : Ordering) → ordering_then (ordering_then r s) s ≡ ordering_then r s
twice Less s = refl
twice Equal Less = refl
twice Equal Equal = refl
twice Equal Greater = refl
twice Greater s = refl

module _ {N : Type 0} (children : N → List N) (node : ℕ → N) (kids : ℕ → List ℕ) (At : ℕ → ℕ → Type 0) (last : ℕ)
    (view : IsView children node kids At last) where
  -- orders that agree on a sphere compare sets of its nodes alike
  sets_alike : (one other : N → N → Ordering) → IsTotalOrder one → IsTotalOrder other → (t a b : ℕ) → t < last
      → ((x y : ℕ) → At (suc t) x → At (suc t) y → one (node x) (node y) ≡ other (node x) (node y)) → At t a → At t b
      → sets children one (node a) (node b) ≡ sets children other (node a) (node b)
  sets_alike one other o p t a b lt same of_a of_b =
      let here : ℕ → ℕ → Ordering = on node one in
      let there : ℕ → ℕ → Ordering = on node other in
      sym (sets_of_kids children node kids At last view one o t a b lt of_a of_b)
      ∙ ap (λ ns. slice_cmp here (sorted_down here ns) (sorted_down here (kids b))) (sym (map-id (kids a)))
      ∙ ap (λ ns. slice_cmp here (sorted_down here (map (λ (n : ℕ). n) (kids a))) (sorted_down here ns))
      (sym (map-id (kids b)))
      ∙ sets_carried (At (suc t)) (λ (n : ℕ). n) there here (λ x y hx hy. same x y hx hy) (kids a) (kids b)
      (view.next t a lt of_a) (view.next t b lt of_b)
      ∙ sets_of_kids children node kids At last view other p t a b lt of_a of_b

  module _ (ends : IsEnded children node At last) (earlier : N → N → Ordering) (o : IsTotalOrder earlier)
      (key : N → ℤ) where
    abbrev rule : ℕ → N → N → Ordering
    rule depth = comparison children earlier key depth

    no_sets : (compare : N → N → Ordering) (a b : ℕ) → At last a → At last b
        → sets children compare (node a) (node b) ≡ Equal
    unfolding sets
    no_sets compare a b p q =
        ap (λ ns. slice_cmp compare (sorted_down compare ns) (sorted_down compare (children (node b)))) (ends.none a p)
        ∙ ap (λ ns. slice_cmp compare [] (sorted_down compare ns)) (ends.none b q)

    -- at a depth that reaches the end nothing changes any more
    stays : (k t a b more : ℕ) → t + k ≡ last → At t a → At t b
        → rule (more + k) (node a) (node b) ≡ rule k (node a) (node b)
    unfolding comparison
    stays k t a b zero e p q = let none : 0 + k ≡ k = omega arith in ap (λ d. rule d (node a) (node b)) none
    stays zero t a b (suc more) e p q =
        let next : suc more + 0 ≡ suc (more + 0) = omega arith in
        let here : t ≡ last = omega (arith, e) in
        ap (λ d. rule d (node a) (node b)) next
        ∙ ap (ordering_then (rule (more + 0) (node a) (node b))) (no_sets (rule (more + 0)) a b
        (subst (λ u. At u a) here p) (subst (λ u. At u b) here q))
        ∙ then_equal (rule (more + 0) (node a) (node b))
        ∙ stays zero t a b more e p q
    stays (suc k) t a b (suc more) e p q =
        let next : suc more + suc k ≡ suc (more + suc k) = omega arith in
        let down : more + suc k ≡ suc more + k = omega arith in
        ap (λ d. rule d (node a) (node b)) next
        ∙ ap (λ r. ordering_then r (sets children (rule (more + suc k)) (node a) (node b)))
        (stays (suc k) t a b more e p q)
        ∙ ap (ordering_then (rule (suc k) (node a) (node b)))
        (sets_alike (rule (more + suc k)) (rule k) (comparison_total children key o (more + suc k))
        (comparison_total children key o k) t a b (omega (arith, e))
        (λ x y hx hy. ap (λ d. rule d (node x) (node y)) down ∙ stays k (suc t) x y (suc more) (omega (arith, e)) hx hy)
        p q)
        ∙ twice (rule k (node a) (node b)) (sets children (rule k) (node a) (node b))

    pub deep : (depth t a b : ℕ) → last ≤ depth → At t a → At t b
        → rule depth (node a) (node b) ≡ rule (last - t) (node a) (node b)
    deep depth t a b le p q =
        let in_view = view.within t a p in
        let sum : depth ≡ (depth - (last - t)) + (last - t) = omega (arith, le) in
        ap (λ d. rule d (node a) (node b)) sum
        ∙ stays (last - t) t a b (depth - (last - t)) (omega (arith, in_view)) p q

    -- the numbers order each sphere as the rule does at each depth from the last sphere on
    pub whole : (numbers : List ℕ) (depth : ℕ) → last ≤ depth → Reaches children earlier key node At last numbers
        → (t : ℕ) → OrdersPlaces (At t) (on node (rule depth)) numbers
    whole numbers depth le reaches t = record {
      each = λ a b p q. (reaches.each t (view.within t a p)).each a b p q ∙ sym (deep depth t a b le p q);
    }

    -- the first sphere of the next rule
    pub next_rule : (later : N → ℤ) (numbers new : List ℕ) (depth : ℕ) → last ≤ depth
        → Reaches children earlier key node At last numbers
        → OrdersPlaces (At 0) (then_cmp (by_number numbers) (on node (on later int_cmp))) new
        → ((t place : ℕ) → t ≢ 0 → At t place → slice_index new place ≡ slice_index numbers place)
        → Reaches children (rule depth) later node At 0 new × AreAhead children (rule depth) later node At 0 new
    unfolding comparison
    next_rule later numbers new depth le reaches by others = (
      record {
        each = λ t low.
            let here : 0 ≡ t = omega arith in
            subst (λ u. OrdersSphere children (rule depth) later node At u (0 - u) new) here
            (record {
              each = λ a b p q. by.each a b p q
                  ∙ ap (λ r. ordering_then r (int_cmp (later (node a)) (later (node b))))
                  ((whole numbers depth le reaches 0).each a b p q);
            });
      },
      record {
        each = λ t some. moved (At t) (on node (rule depth)) numbers new
            (λ place p. others t place (λ e. absurd (omega (arith, e, some))) p) (whole numbers depth le reaches t);
      },
    )
