-- Below the root of a digraph the node of a ligand is the real node of its vertex.
use Rattle.std.proofs.Common.{◌≡◌, ◌≢◌, ◌-◌, ◌==◌, ◌&&◌, ◌||◌, ◌++◌, ◌∷◌, ◌∙◌, [], ℕ, zero, suc, Bool, true, false}
use Rattle.std.proofs.Common.{cond, List, refl, sym, ap, map, replicate, flat_map, length, subst, filter, eqb-true}
use Rattle.std.proofs.Common.{eq-eqb, append-nil}
use Rattle.std.specs.List.{AllByRecursion}
use Rattle.std.proofs.lemmas.List.Elements.{filter-append}
use Rattle.std.proofs.Math.Bool.{or-false, and-true, and-false}
use Rattle.cip_digraph.proofs.lemmas.tree.Branches.{at_root}
use Rattle.cip_digraph.proofs.lemmas.lists.Elements.{Pairwise, all_filtered, by_recursion}
use Rattle.cip_digraph.proofs.lemmas.bonds.Neighbours.{neighbours_differ, sorted_all}
use Rattle.cip_digraph.specs.rings.Alternating.{is_in}
use Rattle.cip_digraph.specs.rules.Auxiliary.{stands_for, ligand_node}
use Rattle.cip_digraph.specs.declared.nodes.NodeKind.TheVariants.{Closure, Multiple, Delocalised}
use Rattle.cip_digraph.specs.digraph.Digraph.{Node, real_node, duplicate, neighbour_child, bond_children, edge_children}
use Rattle.cip_digraph.specs.digraph.Digraph.{real_children}
use Rattle.cip_digraph.specs.declared.drawing.graph.Edge.{Edge}
use Rattle.cip_digraph.specs.graph.Graph.{Graph, edges_at, neighbours, other_end, touches}
use Rattle.cip_digraph.specs.rings.Positions.{is_delocalised}
use Rattle.cip_digraph.specs.graph.SoundGraphs.{IsSound, JoinsBelow}
use Rattle.cip_digraph.specs.digraph.View.{real_at, view_children}
use Rattle.cip_mol.specs.declared.site.Ligand.TheVariants.{Vertex}

pub ne_eqb : (m n : ℕ) → m ≢ n → (m == n) ≡ false
ne_eqb m n differ = by (m == n) refl
  where
    by : (b : Bool) → (m == n) ≡ b → b ≡ false
    by true e = absurd (differ (eqb-true m n e))
    by false e = refl

-- duplicates of multiple bonds stand for no ligand
none_of_multiples : (v vertex : ℕ) (path : List ℕ) (count : ℕ) →
    filter (stands_for v) (replicate count (duplicate Multiple vertex path)) ≡ []
none_of_multiples v vertex path zero = refl
none_of_multiples v vertex path (suc count) =
    rw (and-false (vertex == v)) (none_of_multiples v vertex path count)

none_of_delocalised : (v vertex : ℕ) (path : List ℕ) (count : ℕ) →
    filter (stands_for v) (replicate count (duplicate Delocalised vertex path)) ≡ []
none_of_delocalised v vertex path zero = refl
none_of_delocalised v vertex path (suc count) =
    rw (and-false (vertex == v)) (none_of_delocalised v vertex path count)

none_of_bond : (v vertex other count : ℕ) (path : List ℕ) (counted delocalised : Bool) →
    filter (stands_for v) (cond counted (replicate count
    (cond delocalised (duplicate Delocalised vertex path) (duplicate Multiple other path))) []) ≡ []
none_of_bond v vertex other count path false delocalised = refl
none_of_bond v vertex other count path true true = none_of_delocalised v vertex path count
none_of_bond v vertex other count path true false = none_of_multiples v other path count

module _ (positions : List (List ℕ)) (root v : ℕ) where
  abbrev node_if : Bool → ℕ → List Node
  node_if same other = cond same (real_node other (root ∷ []) ∷ []) []

  of_neighbour : (other : ℕ) → other ≢ root → filter (stands_for v) (neighbour_child root [] other) ≡ node_if
      (other == v) other
  of_neighbour other differ =
      let off : is_in other (root ∷ []) ≡ false = or-false (root == other) ∙ ne_eqb root other (λ e. differ (sym e)) in
      ap (λ b. filter (stands_for v) (cond b (duplicate Closure other (root ∷ []) ∷ [])
      (real_node other (root ∷ []) ∷ []))) off
      ∙ ap (λ b. node_if b other) (and-true (other == v))

  of_edge : (edge : Edge) → other_end root edge ≢ root →
      filter (stands_for v) (edge_children positions root [] edge) ≡ node_if (other_end root edge == v)
      (other_end root edge)
  of_edge edge differ =
      filter-append (stands_for v) (neighbour_child root [] (other_end root edge))
      (bond_children positions edge root [])
      ∙ ap (λ rest. filter (stands_for v) (neighbour_child root [] (other_end root edge)) ++ rest)
      (none_of_bond v root (other_end root edge) (edge.order - 1) (root ∷ []) edge.counted
      ((edge.order == 2) && is_delocalised positions root))
      ∙ append-nil (filter (stands_for v) (neighbour_child root [] (other_end root edge)))
      ∙ of_neighbour (other_end root edge) differ

  of_edges : (edge : Edge) (edges : List Edge) → other_end root edge ≢ root →
      filter (stands_for v) (flat_map (edge_children positions root []) (edge ∷ edges))
      ≡ node_if (other_end root edge == v) (other_end root edge) ++ filter (stands_for v)
      (flat_map (edge_children positions root []) edges)
  of_edges edge edges differ =
      filter-append (stands_for v) (edge_children positions root [] edge)
      (flat_map (edge_children positions root []) edges)
      ∙ ap (λ here. here ++ filter (stands_for v) (flat_map (edge_children positions root []) edges))
      (of_edge edge differ)

  abbrev LeadAway : List Edge → Type 0
  LeadAway edges = AllByRecursion (λ edge. other_end root edge ≢ root) edges

  none_left : (edges : List Edge) → LeadAway edges → AllByRecursion (λ other. v ≢ other) (map (other_end root) edges) →
      filter (stands_for v) (flat_map (edge_children positions root []) edges) ≡ []
  none_left [] away all = refl
  none_left (edge ∷ edges) away all =
      of_edges edge edges away.0
      ∙ ap (λ b. node_if b (other_end root edge) ++ filter (stands_for v)
      (flat_map (edge_children positions root []) edges)) (ne_eqb (other_end root edge) v (λ e. all.0 (sym e)))
      ∙ none_left edges away.1 all.1

  one_left : (edges : List Edge) → LeadAway edges → Pairwise ◌≢◌ (map (other_end root) edges) →
      is_in v (map (other_end root) edges) ≡ true →
      filter (stands_for v) (flat_map (edge_children positions root []) edges) ≡ real_node v (root ∷ []) ∷ []
  one_left [] away differ there = let bad : false ≡ true = there in cc
  one_left (edge ∷ edges) away differ there =
      of_edges edge edges away.0 ∙ by (λ e. one_left edges away.1 differ.1 e) (other_end root edge == v) refl
    where
      by : (is_in v (map (other_end root) edges) ≡ true →
          filter (stands_for v) (flat_map (edge_children positions root []) edges) ≡ real_node v (root ∷ []) ∷ []) →
          (b : Bool) → (other_end root edge == v) ≡ b →
          node_if b (other_end root edge) ++ filter (stands_for v) (flat_map (edge_children positions root []) edges)
          ≡ real_node v (root ∷ []) ∷ []
      by rest true e =
          let same : other_end root edge ≡ v = eqb-true (other_end root edge) v e in
          ap (λ rest. real_node (other_end root edge) (root ∷ []) ∷ rest)
          (none_left edges away.1 (subst (λ w. AllByRecursion (λ other. w ≢ other) (map (other_end root) edges)) same
          differ.0))
          ∙ ap (λ w. real_node w (root ∷ []) ∷ []) same
      by rest false e = rest (sym (ap (λ b. b || is_in v (map (other_end root) edges)) e) ∙ there)

-- edges at a vertex lead away from it
module _ (graph : Graph) (sound : IsSound graph) (root : ℕ) where
  away_by : (edge : Edge) → edge.a ≢ edge.b → (b : Bool) → (edge.a == root) ≡ b → cond b edge.b edge.a ≢ root
  away_by edge differ true e same = differ (eqb-true edge.a root e ∙ sym same)
  away_by edge differ false e same = let bad : true ≡ false = sym (eq-eqb edge.a root same) ∙ e in cc

  away : (edges : List Edge) → AllByRecursion (JoinsBelow (length graph.vertices)) edges →
      AllByRecursion (λ edge. other_end root edge ≢ root) edges
  away [] all = tt
  away (edge ∷ edges) all = (away_by edge all.0.differ (edge.a == root) refl, away edges all.1)

  pub edges_away : AllByRecursion (λ edge. other_end root edge ≢ root) (edges_at graph root)
  edges_away =
      sorted_all (λ edge. other_end root edge ≢ root) root (filter (touches root) graph.edges)
      (all_filtered (λ edge. other_end root edge ≢ root) (touches root) graph.edges
      (away graph.edges (by_recursion (JoinsBelow (length graph.vertices)) graph.edges sound.edges)))

  pub one_node : (positions : List (List ℕ)) (v : ℕ) → is_in v (neighbours graph root) ≡ true →
      ligand_node (view_children graph positions (root ∷ []) (real_at (root ∷ []))) (Vertex v) ≡ real_node v
      (root ∷ []) ∷ []
  unfolding real_children
  one_node positions v there =
      ap (filter (stands_for v)) (at_root graph positions root)
      ∙ one_left positions root v (edges_at graph root) edges_away (neighbours_differ graph sound root) there
