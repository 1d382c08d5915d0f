-- Spheres refined one after another inwards, and what they decide in each model.
use Rattle.std.proofs.Common.{◌≡◌, ◌≢◌, ◌<◌, ◌≤◌, ◌+◌, ◌-◌, ℕ, ℤ, zero, suc, List, slice_index, refl, sym, ap, ◌∙◌, subst, arith, inl, inr}
use Rattle.std.specs.declared.cmp.Ordering.{Ordering}
use Rattle.std.specs.Cmp.{IsTotalOrder}
use Rattle.std.specs.Ordering.{nat_cmp, on, ordering_then}
use Rattle.std.specs.Cmp.Lexicographic.{slice_cmp}
use Rattle.std.proofs.lemmas.Bool.{cases_lt}
use Rattle.cip_rank.specs.Comparison.{sorted_down, comparison}
use Rattle.cip_rank.specs.Ranking.{by_number}
use Rattle.cip_rank.proofs.lemmas.Descending.{all_by}
use Rattle.cip_rank.proofs.lemmas.Parts.{map_alike}
use Rattle.cip_rank.proofs.lemmas.TotalOrder.{comparison_total}
use Rattle.cip_partition.specs.Kids.{kid_set, by_kids}
use Rattle.cip_branches.specs.Refining.{AreNext, Refines}
use Rattle.cip_partition.specs.Rows.{OrdersPlaces}
use Rattle.cip_branches.specs.Views.{IsView, OrdersSphere, Reaches, Begins}
use Rattle.cip_branches.proofs.lemmas.refined.KidSets.{moved, sets_are}

module _ (kids : ℕ → List ℕ) (At : ℕ → ℕ → Type 0) (far : ℕ) (next : AreNext kids At far) where
  pub refines_none : (start : List ℕ) → Refines kids At far (suc far) start start
  refines_none start = record {
    ordered = λ t low high. absurd (omega (arith, low, high));
    inside = λ t place lt p. refl;
    outside = λ t place lt p. refl;
  }

  module _ (start mid new : List ℕ) (t : ℕ) (le : t ≤ far) (refines : Refines kids At far (suc t) start mid)
      (others : (u place : ℕ) → u ≢ t → At u place → slice_index new place ≡ slice_index mid place) where
    set_stays : (u place : ℕ) → t ≤ u → u ≤ far → At u place → kid_set kids new place ≡ kid_set kids mid place
    set_stays u place low high p = ap (sorted_down nat_cmp) (map_alike (slice_index new) (slice_index mid) (kids place)
        (all_by (λ kid h. others (suc u) kid (λ e. absurd (omega (arith, e, low))) h) (kids place) (next.next u place
        high p)))

    pub refines_step : OrdersPlaces (At t) (by_kids kids mid) new → Refines kids At far t start new
    refines_step by = record {
      ordered = λ u low high. elim (cases_lt t u) [
        | inl beyond ↦ record {
          each = λ a b p q.
              ap (λ n. nat_cmp n (slice_index new b)) (others u a (λ e. absurd (omega (arith, e, beyond))) p)
              ∙ ap (nat_cmp (slice_index mid a)) (others u b (λ e. absurd (omega (arith, e, beyond))) q)
              ∙ (refines.ordered u beyond high).each a b p q
              ∙ ap (ordering_then (by_number start a b)) (sets_now u a b low high p q);
        }
        | inr at ↦ let here : t ≡ u = omega (arith, at, low) in
            rw (sym here) (record {
              each = λ a b p q. by.each a b p q
                  ∙ ap (λ r. ordering_then r (slice_cmp nat_cmp (kid_set kids mid a) (kid_set kids mid b)))
                  (ap (λ n. nat_cmp n (slice_index mid b)) (refines.inside t a (omega arith) p)
                  ∙ ap (nat_cmp (slice_index start a)) (refines.inside t b (omega arith) q))
                  ∙ ap (ordering_then (by_number start a b)) (sets_now t a b (omega arith) le p q);
            })
      ];
      inside = λ u place lt p. others u place (λ e. absurd (omega (arith, e, lt))) p ∙ refines.inside u place (omega
          (arith, lt)) p;
      outside = λ u place lt p. others u place (λ e. absurd (omega (arith, e, lt, le))) p ∙ refines.outside u place lt
          p;
    }
      where
        sets_now : (u a b : ℕ) → t ≤ u → u ≤ far → At u a → At u b
            → slice_cmp nat_cmp (kid_set kids mid a) (kid_set kids mid b) ≡ slice_cmp nat_cmp (kid_set kids new a)
            (kid_set kids new b)
        sets_now u a b low high p q =
            ap (λ ns. slice_cmp nat_cmp ns (kid_set kids mid b)) (sym (set_stays u a low high p))
            ∙ ap (slice_cmp nat_cmp (kid_set kids new a)) (sym (set_stays u b low high q))

-- in each model the refined numbers are those of the rule
module _ {N : Type 0} (children : N → List N) (node : ℕ → N) (kids : ℕ → List ℕ) (At : ℕ → ℕ → Type 0) (last : ℕ)
    (view : IsView children node kids At last) (earlier : N → N → Ordering) (o : IsTotalOrder earlier) (key : N → ℤ)
    (far : ℕ) (within : far < last) (before : List ℕ) (reaches : Reaches children earlier key node At far before)
    (start now : List ℕ) (begins : Begins children earlier key node At far before start)
    (refines : Refines kids At far 0 start now) where
  abbrev rule : ℕ → N → N → Ordering
  rule depth = comparison children earlier key depth

  reached_on : (back t : ℕ) → t + back ≡ suc far → OrdersSphere children earlier key node At t back now
  unfolding comparison
  reached_on zero t e =
      let here : suc far ≡ t = omega (arith, e) in
      subst (λ u. OrdersSphere children earlier key node At u 0 now) here
      (moved (At (suc far)) (on node (rule 0)) start now (λ place p. refines.outside (suc far) place (omega arith) p)
      begins.new)
  reached_on (suc back) t e =
      let le : t ≤ far = omega (arith, e) in
      let depth : far - t ≡ back = omega (arith, e) in
      let inner = reached_on back (suc t) (omega (arith, e)) in
      let was = subst (λ d. OrdersSphere children earlier key node At t d before) depth (reaches.each t le) in
      let began = moved (At t) (on node (rule back)) before start (λ place p. begins.kept t place le p)
      was in
      record {
        each = λ a b p q. (refines.ordered t (omega arith) le).each a b p q
            ∙ ap (λ r. ordering_then r (slice_cmp nat_cmp (kid_set kids now a) (kid_set kids now b)))
            (began.each a b p q)
            ∙ ap (ordering_then (rule back (node a) (node b)))
            (sets_are children node kids At last view (rule back) (comparison_total children key o back) now t a b
            (omega (arith, le, within)) inner p q);
      }

  pub reaches_next : Reaches children earlier key node At (suc far) now
  reaches_next = record { each = λ t le. reached_on (suc far - t) t (omega (arith, le)) }
