-- The deciding sphere of an end, found by the spheres of its digraph.
use Rattle.std.proofs.Common.{◌≡◌, ◌≢◌, ◌<◌, ◌≤◌, ◌+◌, ◌*◌, ℕ, zero, suc, Bool, true, false, List, [], ◌∷◌, ◌++◌}
use Rattle.std.proofs.Common.{length, refl, sym, ap, ◌∙◌, subst, arith, add-one, inl, inr}
use Rattle.std.specs.Prelude.{flat_map}
use Rattle.std.proofs.lemmas.Bool.{cases_lt, cases_order}
use Rattle.std.proofs.lemmas.List.{append-nil}
use Rattle.cip_rank.specs.declared.rules.Rules.{Rules}
use Rattle.cip_mol.specs.declared.site.Unit as units
use Rattle.cip_digraph.specs.outcome.Deciding.{is_empty, nodes_below, least_from, is_settled, is_whole}
use Rattle.cip_digraph.specs.digraph.Digraph.{Node, real_node, children, sphere, digraph}
use Rattle.cip_digraph.specs.rules.EarlyOrder.{seen_at}
use Rattle.cip_digraph.specs.units.Ends.{End}
use Rattle.cip_digraph.specs.graph.Graph.{Graph}
use Rattle.cip_digraph.specs.outcome.Outcomes.{is_in_unit, end_root, settled_in, cost}
use Rattle.cip_digraph.specs.graph.SoundGraphs.{IsSound}
use Rattle.cip_digraph.specs.digraph.View.{view_children, height_below}
use Rattle.cip_digraph.proofs.lemmas.tree.Branches.{one_further, spheres_seen, at_root}
use Rattle.cip_digraph.proofs.lemmas.numbered.Cut.{size_le}
use Rattle.cip_digraph.proofs.lemmas.tree.Ended.{ended}
use Rattle.cip_digraph.proofs.lemmas.orders.LeastSphere.{least_decides, here_or, if_any}
use Rattle.cip_digraph.proofs.lemmas.numbered.Placing.{placed_length}

module _ {N : Type 0} (below : N → List N) where
  abbrev height_by : ℕ → List N → ℕ
  height_by further nodes = elim nodes as (λ _. ℕ) [ [] ↦ 0 | node ∷ others ↦ further + 1 ]

  pub nothing_below : (k : ℕ) → nodes_below below k [] ≡ []
  nothing_below zero = refl
  nothing_below (suc k) = ap (flat_map below) (nothing_below k)

  reaches_by : (k further : ℕ) (next : List N) → nodes_below below k next ≢ [] → k ≤ further → suc k ≤ height_by further
      next
  reaches_by k further [] some le = absurd (some (nothing_below k))
  reaches_by k further (node ∷ others) some le = omega arith

  -- a sphere that has a node isn't beyond the height
  pub reaches : (most k : ℕ) (nodes : List N) → nodes_below below k nodes ≢ [] → k ≤ most → k ≤ height_below below most
      nodes
  reaches zero k nodes some le = omega arith
  reaches (suc more) zero nodes some le = omega arith
  reaches (suc more) (suc k) nodes some le =
      let deeper : nodes_below below k (flat_map below nodes) ≢ [] = λ e. some (one_further below k nodes ∙ e) in
      reaches_by k (height_below below more (flat_map below nodes)) (flat_map below nodes) deeper
      (reaches more k (flat_map below nodes) deeper (omega arith))

from_on : (test : ℕ → Bool) (more from s : ℕ) → s ≤ from → s ≤ least_from test from more
from_on test zero from s h = h
from_on test (suc more) from s h = by (test from) (from_on test more (from + 1) s (omega arith))
  where
    by : (b : Bool) → s ≤ least_from test (from + 1) more → s ≤ here_or from (least_from test (from + 1) more) b
    by true rest = h
    by false rest = rest

-- where none below a number passes, the least one isn't below it
least_above : (test : ℕ → Bool) (more from s : ℕ) → s ≤ from + more → ((k : ℕ) → from ≤ k → k < s → test k ≡ false)
    → s ≤ least_from test from more
least_above test zero from s high none = omega arith
least_above test (suc more) from s high none = elim (cases_order from s) [
  | inl same ↦ from_on test (suc more) from s (omega arith)
  | inr (inl below) ↦
      subst (λ b. s ≤ here_or from (least_from test (from + 1) more) b) (sym (none from (omega arith) below))
      (least_above test more (from + 1) s (omega arith) (λ k a b. none k (omega arith) b))
  | inr (inr above) ↦ from_on test (suc more) from s (omega arith)
]

module _ (rules : Rules) (graph : Graph) (positions : List (List ℕ)) (all : List units.Unit) (end : End)
    (sound : IsSound graph) (lt : end.at < length graph.vertices) where
  abbrev settles : ℕ → Bool
  settles = is_settled (seen_at rules graph positions all end.at) (real_node end.at []) (end_root rules graph positions
      all end).ligands (is_in_unit rules graph positions all)

  abbrev behind : ℕ → List Node
  behind number = sphere graph positions end.at number

  -- a sphere with a node is within the height
  pub within_height : (number : ℕ) → behind number ≢ [] → number ≤ (seen_at rules graph positions all end.at).height
  within_height number some =
      let few : number ≤ length graph.vertices = elim (cases_lt (length graph.vertices) number) [
        | inl far ↦ absurd (some (ended graph positions end.at number sound lt far))
        | inr nearer ↦ nearer
      ] in
      reaches (view_children graph positions (end.at ∷ [])) (2 * length graph.vertices + 2) number
      (real_node end.at [] ∷ [])
      (λ e. some (sym (spheres_seen graph positions end.at number) ∙ e)) (omega (arith, few))

  -- there is no node beyond a sphere where the next one has none
  pub whole_is : (number : ℕ)
      → is_whole (seen_at rules graph positions all end.at) (real_node end.at []) (end_root rules graph positions all
      end).ligands (is_in_unit rules graph positions all) number
      ≡ is_empty (behind (suc number))
  whole_is number =
      ap (λ k. is_empty (nodes_below (view_children graph positions (end.at ∷ [])) k (real_node end.at [] ∷ [])))
      (add-one number)
      ∙ ap is_empty (spheres_seen graph positions end.at (suc number))

  root_children : (seen_at rules graph positions all end.at).children (real_node end.at []) ≡ children graph positions
      (real_node end.at [])
  root_children = at_root graph positions end.at

  no_first : behind 1 ≡ [] → children graph positions (real_node end.at []) ≡ []
  no_first e = sym (append-nil (children graph positions (real_node end.at []))) ∙ e

  sphere_is : (number : ℕ) → behind number ≡ nodes_below (children graph positions) number (real_node end.at [] ∷ [])
  sphere_is zero = refl
  sphere_is (suc number) = ap (flat_map (children graph positions)) (sphere_is number)

  none_behind : (number : ℕ) → children graph positions (real_node end.at []) ≡ [] → behind (suc number) ≡ []
  none_behind number e =
      sphere_is (suc number) ∙ one_further (children graph positions) number (real_node end.at [] ∷ [])
      ∙ ap (λ nodes. nodes_below (children graph positions) number (nodes ++ [])) e
      ∙ nothing_below (children graph positions) number

  some_children : (number : ℕ) → 1 ≤ number → behind number ≢ [] → (seen_at rules graph positions all end.at).children
      (real_node end.at []) ≢ []
  some_children zero low some = absurd (omega arith)
  some_children (suc number) low some = λ e. some (none_behind number (sym root_children ∙ e))

  -- the first sphere that settles is the deciding one
  pub settled_is : (number : ℕ) → 1 ≤ number → behind number ≢ [] → settles number ≡ true
      → ((before : ℕ) → 1 ≤ before → before < number → settles before ≡ false) → settled_in rules graph positions all
      end ≡ number
  settled_is number low some here none =
      least_decides (seen_at rules graph positions all end.at) (real_node end.at []) (end_root rules graph positions all
      end).ligands (is_in_unit rules graph positions all) number
      (some_children number low some) low (within_height number some) here none

  -- where none settles up to a sphere, the deciding one is beyond it
  pub settled_beyond : (number : ℕ) → behind number ≢ [] → behind 1 ≢ [] → ((k : ℕ) → 1 ≤ k → k ≤ number
      → settles k ≡ false)
      → number < settled_in rules graph positions all end
  settled_beyond number some first none =
      let seen = seen_at rules graph positions all end.at in
      let high = within_height number some in
      subst (λ n. number < n) (sym (if_any (seen.children (real_node end.at [])) (least_from settles 1 seen.height)
      (some_children 1 (omega arith) first)))
      (least_above settles seen.height 1 (suc number) (omega (arith, high)) (λ k low lt. none k low (omega arith)))

  -- a root without neighbours is settled at once
  pub settled_alone : behind 1 ≡ [] → settled_in rules graph positions all end ≡ 0
  settled_alone e =
      let seen = seen_at rules graph positions all end.at in
      ap (λ nodes. elim nodes as (λ _. ℕ) [ [] ↦ 0 | node ∷ others ↦ least_from settles 1 seen.height ]) (root_children
      ∙ no_first e)

  -- and costs the spheres up to it
  pub cost_beyond : (number : ℕ) → number < settled_in rules graph positions all end
      → length (digraph graph positions end.at (suc number)) ≤ cost rules graph positions all end
  cost_beyond number beyond =
      let le = size_le graph positions end.at (suc number) (settled_in rules graph positions all end) beyond in
      omega (
        arith,
        le,
        placed_length graph positions end.at (suc number),
        placed_length graph positions end.at
            (settled_in rules graph positions all end),
      )

  -- the deciding sphere is at most one after the height
  pub settled_low : settled_in rules graph positions all end ≤ (seen_at rules graph positions all end.at).height + 1
  settled_low =
      let seen = seen_at rules graph positions all end.at in
      by seen.height (seen.children (real_node end.at []))
    where
      least_low : (test : ℕ → Bool) (more from : ℕ) → least_from test from more ≤ from + more
      least_low test zero from = omega arith
      least_low test (suc more) from = pick (test from) (least_low test more (from + 1))
        where
          pick : (b : Bool) → least_from test (from + 1) more ≤ from + 1 + more
              → here_or from (least_from test (from + 1) more) b ≤ from + suc more
          pick true rest = omega arith
          pick false rest = omega (arith, rest)

      by : (high : ℕ) (nodes : List Node) → elim nodes as (λ _. ℕ) [
        | [] ↦ 0
        | node ∷ others ↦ least_from settles 1
            high
      ] ≤ high + 1
      by high [] = omega arith
      by high (node ∷ others) = let low = least_low settles high 1 in omega (arith, low)
