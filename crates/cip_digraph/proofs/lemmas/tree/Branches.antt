-- Seen from its root, a digraph has the spheres of the digraph, and its branches end within its height.
use Rattle.std.proofs.Common.{◌≡◌, ◌<◌, ◌+◌, ◌*◌, ℕ, zero, suc, true, false, not, List, [], ◌∷◌, ◌++◌, length, refl}
use Rattle.std.proofs.Common.{sym, ap, ◌∙◌, arith, flat_map, filter, Option, eq-eqb, append-nil}
use Rattle.std.specs.List.{AllByRecursion}
use Rattle.std.proofs.lemmas.Bool.{lt-leb}
use Rattle.cip_rank.specs.declared.rules.Rules.{Rules}
use Rattle.cip_mol.specs.declared.labels.descriptor.Descriptor.{Descriptor}
use Rattle.cip_digraph.specs.outcome.Deciding.{nodes_below}
use Rattle.cip_digraph.specs.digraph.Digraph.{NodeKind, Real, Node, real_node}
use Rattle.cip_digraph.specs.digraph.Digraph.{duplicate, children, sphere}
use Rattle.cip_digraph.specs.graph.Graph.{Graph}
use Rattle.cip_digraph.specs.digraph.SameBranch.{EndsWithin}
use Rattle.cip_digraph.specs.graph.SoundGraphs.{IsSound}
use Rattle.cip_digraph.specs.digraph.View.{is_on_way, view_children, height_below, seen_from}
use Rattle.cip_digraph.proofs.lemmas.tree.Children.{sphere_has}
use Rattle.cip_digraph.proofs.lemmas.tree.Ended.{IsPath, Anywhere, leads_anywhere, paths_pass, ended}
use Rattle.cip_digraph.proofs.lemmas.lists.Elements.{all_by, all_parts}

-- in any tree
module _ {N : Type 0} (below : N → List N) where
  pub one_further : (spheres : ℕ) (nodes : List N)
      → nodes_below below (suc spheres) nodes ≡ nodes_below below spheres (flat_map below nodes)
  one_further zero nodes = refl
  one_further (suc spheres) nodes = ap (flat_map below) (one_further spheres nodes)

  first_empty : {X : Type 0} (xs ys : List X) → xs ++ ys ≡ [] → (xs ≡ []) × (ys ≡ [])
  first_empty [] ys e = (refl, e)
  first_empty (x ∷ xs) ys e = absurd cc

  pub none_below : (nodes : List N) → flat_map below nodes ≡ [] → AllByRecursion (EndsWithin below 0) nodes
  none_below [] e = tt
  none_below (node ∷ nodes) e = let t = first_empty (below node) (flat_map below nodes) e in (t.0, none_below nodes t.1)

  pub each_ends : (further : ℕ) (nodes : List N) → AllByRecursion (EndsWithin below further) (flat_map below nodes)
      → AllByRecursion (EndsWithin below (suc further)) nodes
  each_ends further [] all = tt
  each_ends further (node ∷ nodes) all =
      let t = all_parts (EndsWithin below further) (below node) (flat_map below nodes) all in
      (t.0, each_ends further nodes t.1)

  abbrev height_by : ℕ → List N → ℕ
  height_by further nodes = elim nodes as (λ _. ℕ) [ [] ↦ 0 | node ∷ others ↦ further + 1 ]

  ends_by : (further : ℕ) (nodes next : List N) → flat_map below nodes ≡ next
      → AllByRecursion (EndsWithin below further) next
      → AllByRecursion (EndsWithin below (height_by further next)) nodes
  ends_by further nodes [] e all = none_below nodes e
  ends_by further nodes (node ∷ others) e all =
      let one : suc further ≡ further + 1 = omega arith in
      rw (← one) (each_ends further nodes (rw e all))

  ends_within : (most : ℕ) (nodes : List N) → nodes_below below most nodes ≡ []
      → AllByRecursion (EndsWithin below (height_below below most nodes)) nodes
  ends_within zero nodes e = rw e tt
  ends_within (suc more) nodes e =
      ends_by (height_below below more (flat_map below nodes)) nodes (flat_map below nodes) refl
      (ends_within more (flat_map below nodes) (sym (one_further more nodes) ∙ e))

  pub ends_more : (spheres : ℕ) (node : N) → EndsWithin below spheres node → EndsWithin below (suc spheres) node
  ends_more zero node e = rw e tt
  ends_more (suc spheres) node e =
      all_by (EndsWithin below spheres) (EndsWithin below (suc spheres)) (λ n h. ends_more spheres n h) (below node) e

  -- where a node ends, so do its children
  pub children_end : (spheres : ℕ) (node : N) → EndsWithin below spheres node
      → AllByRecursion (EndsWithin below spheres) (below node)
  children_end zero node e = rw e tt
  children_end (suc spheres) node e =
      all_by (EndsWithin below spheres) (EndsWithin below (suc spheres)) (λ n h. ends_more spheres n h) (below node) e

module _ (graph : Graph) (positions : List (List ℕ)) (root : ℕ) where
  -- nodes of the outer spheres don't lie on the way to the root
  off_by : (number : ℕ) (kind : NodeKind) (path : List ℕ) (vertex : ℕ)
      → IsPath Anywhere (suc number) (duplicate kind vertex path)
      → is_on_way (root ∷ []) (duplicate kind vertex path) ≡ false
  off_by number Real path vertex h =
      let len : length path ≡ suc number + 1 = h.len in
      rw (lt-leb (length path) (length (root ∷ [])) (omega arith)) refl
  off_by number kind path vertex h = refl

  off_way : (number : ℕ) (node : Node) → IsPath Anywhere (suc number) node → is_on_way (root ∷ []) node ≡ false
  off_way number node h = off_by number node.kind node.path node.vertex h

  all_kept : (nodes : List Node) → AllByRecursion (IsPath Anywhere 1) nodes
      → filter (λ child. not (is_on_way (root ∷ []) child)) nodes ≡ nodes
  all_kept [] all = refl
  all_kept (node ∷ nodes) all =
      rw (all_kept nodes all.1, off_way 0 node all.0) refl

  paths_of : (number : ℕ) → AllByRecursion (IsPath Anywhere number) (sphere graph positions root number)
  paths_of number =
      sphere_has graph positions root (IsPath Anywhere)
      (paths_pass graph positions Anywhere (λ vertex _. leads_anywhere graph vertex) root tt) number

  root_on_way : (vertex : ℕ) → is_on_way (vertex ∷ []) (real_node vertex []) ≡ true
  root_on_way vertex = rw (eq-eqb vertex vertex refl) refl

  pub at_root : view_children graph positions (root ∷ []) (real_node root [])
      ≡ children graph positions (real_node root [])
  unfolding view_children
  at_root =
      let nodes = children graph positions (real_node root []) in
      rw (root_on_way root, append-nil (filter (λ child. not (is_on_way (root ∷ []) child)) nodes))
      (all_kept nodes (rw (append-nil nodes) at (paths_of 1)))

  pub further_out : (number : ℕ) (node : Node) → IsPath Anywhere (suc number) node
      → view_children graph positions (root ∷ []) node ≡ children graph positions node
  unfolding view_children
  further_out number node h = rw (off_way number node h) refl

  all_further : (number : ℕ) (nodes : List Node) → AllByRecursion (IsPath Anywhere (suc number)) nodes
      → flat_map (view_children graph positions (root ∷ [])) nodes ≡ flat_map (children graph positions) nodes
  all_further number [] all = refl
  all_further number (node ∷ nodes) all =
      rw (further_out number node all.0, all_further number nodes all.1) refl

  sphere_step : (number : ℕ)
      → flat_map (view_children graph positions (root ∷ [])) (sphere graph positions root number)
      ≡ sphere graph positions root (suc number)
  sphere_step zero = ap (λ nodes. nodes ++ []) at_root
  sphere_step (suc number) = all_further number (sphere graph positions root (suc number)) (paths_of (suc number))

  -- seen from the root the spheres are those of the digraph
  pub spheres_seen : (number : ℕ)
      → nodes_below (view_children graph positions (root ∷ [])) number (real_node root [] ∷ [])
      ≡ sphere graph positions root number
  spheres_seen zero = refl
  spheres_seen (suc number) = ap (flat_map (view_children graph positions (root ∷ []))) (spheres_seen number)
      ∙ sphere_step number

  pub ligands_end : IsSound graph → root < length graph.vertices → (rules : Rules) (descriptor : List ℕ → Option Descriptor)
      → AllByRecursion
      (EndsWithin (seen_from rules graph positions (root ∷ []) descriptor).children
      (seen_from rules graph positions (root ∷ []) descriptor).height)
      ((seen_from rules graph positions (root ∷ []) descriptor).children (real_node root []))
  ligands_end sound lt rules descriptor =
      let below = view_children graph positions (root ∷ []) in
      let most = 2 * length graph.vertices + 2 in
      let none : nodes_below below most (real_node root [] ∷ []) ≡ [] = spheres_seen most
      ∙ ended graph positions root most sound lt (omega arith) in
      children_end below (height_below below most (real_node root [] ∷ [])) (real_node root [])
      (ends_within below most (real_node root [] ∷ []) none).0
