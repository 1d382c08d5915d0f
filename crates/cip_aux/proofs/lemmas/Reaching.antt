-- What holds of the nodes n spheres below others, and the height that these have at least.
use Rattle.std.proofs.Common.{◌≡◌, ℕ, zero, suc, ◌+◌, ◌≤◌, List, [], ◌∷◌, ap, ◌∙◌, arith, refl}
use Rattle.std.specs.Prelude.{flat_map}
use Rattle.std.specs.List.{AllByRecursion}
use Rattle.cip_digraph.specs.outcome.Deciding.{nodes_below}
use Rattle.cip_digraph.specs.digraph.View.{height_below}
use Rattle.cip_digraph.proofs.lemmas.tree.Branches.{one_further}
use Rattle.cip_digraph.proofs.lemmas.lists.Elements.{all_parts}

-- what holds of each node n spheres below
module _ {N : Type 0} (below : N → List N) where
  none_below : (s : ℕ) → nodes_below below s [] ≡ []
  none_below zero = refl
  none_below (suc s) = ap (flat_map below) (none_below s)

  pub all_each : (P : N → Type 0) (ns : List N) → AllByRecursion P (flat_map below ns)
      → AllByRecursion (λ n. AllByRecursion P (below n)) ns
  all_each P [] all = tt
  all_each P (n ∷ ns) all = let both = all_parts P (below n) (flat_map below ns) all in
      (both.0, all_each P ns both.1)

  abbrev further : ℕ → List N → ℕ
  further more next = elim next as (λ _. ℕ) [ [] ↦ 0 | node ∷ others ↦ more + 1 ]

  at_least_by : (s more : ℕ) (next : List N) → (next ≡ [] → ⊥) → s ≤ more → suc s ≤ further more next
  at_least_by s more [] some le = absurd (some refl)
  at_least_by s more (n ∷ ns) some le = omega arith

  -- where there are nodes n spheres below, the height is at least that
  pub at_least : (s most : ℕ) (ns : List N) → s ≤ most → (nodes_below below s ns ≡ [] → ⊥) → s ≤ height_below below most ns
  at_least zero most ns le some = omega arith
  at_least (suc s) zero ns le some = absurd (omega arith)
  at_least (suc s) (suc most) ns le some =
      let next = flat_map below ns in
      at_least_by s (height_below below most next) next
      (λ e. some (one_further below s ns ∙ ap (nodes_below below s) e ∙ none_below s))
      (at_least s most next (omega arith) (λ e. some (one_further below s ns ∙ e)))
