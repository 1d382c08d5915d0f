-- What the keys of two branches decide is what Rule 1a finds between their nodes within two spheres.
use Rattle.std.proofs.Common.{◌≡◌, ◌∙◌, ℕ, List, [], ◌∷◌, map, Some, refl, sym, ap}
use Rattle.std.specs.Cmp.Lexicographic.{slice_cmp}
use Rattle.std.specs.List.{AllByRecursion}
use Rattle.std.specs.Ordering.{nat_cmp, ordering_then}
use Rattle.std.specs.declared.cmp.Ordering.{Ordering}
use Rattle.std.specs.declared.cmp.Ordering.TheVariants.{Less, Equal, Greater}
use Rattle.std.specs.declared.option.Option.{Option}
use Rattle.cip_rank.proofs.lemmas.Carried.{sets_carried}
use Rattle.cip_rank.specs.Comparison.{comparison, sets, sorted_down}
use Rattle.cip_mol.specs.declared.labels.outcome.Rule.TheVariants.{R1a}
use Rattle.cip_digraph.specs.digraph.Digraph.{Node, real_node, children}
use Rattle.cip_digraph.specs.graph.Graph.{Graph}
use Rattle.cip_digraph.specs.rules.Decisions.{Difference, first_difference, or_else}
use Rattle.cip_digraph.specs.rules.Keys.{atomic_key}
use Rattle.cip_constitution.specs.Noting.{by_atoms}
use Rattle.cip_digraph.specs.Asking.{decided, differing}
use Rattle.cip_rules.specs.Orders.{found_below}
use Rattle.cip_rules.proofs.lemmas.NodeKeys.{pos_cmp}
use Rattle.cip_ranker.specs.RootDecisions.{branch_at, told_between}

-- the first of two depths at which there is a difference
pub first_of_two : (compare : ℕ → Ordering) (sets : Ordering) → compare 1 ≡ ordering_then (compare 0) sets
    → first_difference compare 0 2 ≡ or_else (differing 0 (compare 0)) (differing 1 sets)
first_of_two compare sets is = by (compare 0) (compare 1) is
  where
    last : (second : Ordering) → first_difference (λ depth. second) 1 1 ≡ differing 1 second
    last Less = refl
    last Equal = refl
    last Greater = refl

    by : (first second : Ordering) → second ≡ ordering_then first sets
        → elim first as (λ _. Option Difference) [
          | Less ↦ Some (record { side = Less; depth = 0 })
          | Equal ↦ first_difference (λ depth. second) 1 1
          | Greater ↦ Some (record { side = Greater; depth = 0 })
        ]
        ≡ or_else (differing 0 first) (differing 1 sets)
    by Less second e = refl
    by Equal second e = last second ∙ ap (differing 1) e
    by Greater second e = refl

all_any : {X : Type 0} (xs : List X) → AllByRecursion (λ x. Unit {0}) xs
all_any [] = tt
all_any (x ∷ xs) = (tt, all_any xs)

module _ (graph : Graph) (positions : List (List ℕ)) where
  abbrev key : Node → ℕ
  key = atomic_key graph positions

  abbrev kids : Node → List Node
  kids = children graph positions

  abbrev by_key : ℕ → Node → Node → Ordering
  by_key = by_atoms graph positions 0 0

  abbrev keys_below : Node → List ℕ
  keys_below node = sorted_down nat_cmp (map key (kids node))

  pub nodes_compared : (a b : Node) → by_atoms graph positions 0 0 0 a b
      ≡ nat_cmp (atomic_key graph positions a) (atomic_key graph positions b)
  unfolding comparison
  nodes_compared a b = pos_cmp (key a) (key b)

  pub sets_compared : (a b : Node) → by_key 1 a b
      ≡ ordering_then (by_key 0 a b) (slice_cmp nat_cmp (keys_below a) (keys_below b))
  unfolding comparison sets
  sets_compared a b =
      ap (ordering_then (by_key 0 a b))
      (sym (sets_carried (λ node. Unit {0}) key (by_key 0) nat_cmp (λ a b _ _. sym (nodes_compared a b)) (kids a)
      (kids b) (all_any (kids a)) (all_any (kids b))))

  pub told_is : (root v w : ℕ) → told_between (branch_at graph positions root v) (branch_at graph positions root w)
      ≡ found_below R1a (by_atoms graph positions root 0) (λ vertex. real_node vertex (root ∷ [])) 2 v w
  told_is root v w =
      let a = real_node v (root ∷ []) in
      let b = real_node w (root ∷ []) in
      let sets = slice_cmp nat_cmp (keys_below a) (keys_below b) in
      ap (decided R1a)
      (ap (λ side. or_else (differing 0 side) (differing 1 sets)) (sym (nodes_compared a b))
      ∙ sym (first_of_two (λ depth. by_key depth a b) sets (sets_compared a b)))
