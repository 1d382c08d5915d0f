-- In a sound graph one node at most stands for a ligand.
use Rattle.std.proofs.Common.{◌≡◌, ◌≢◌, ◌≤◌, ◌-◌, ◌==◌, ◌&&◌, ℕ, zero, suc, Bool, true, false, cond, List, [], ◌∷◌}
use Rattle.std.proofs.Common.{◌++◌, map, length, replicate, refl, sym, ap, ◌∙◌, subst, arith, inl, inr}
use Rattle.std.specs.List.{AllByRecursion, flat_map, filter}
use Rattle.std.proofs.lemmas.Bool.{cases_eq, ne_eqb}
use Rattle.std.proofs.lemmas.List.Elements.{filter-append}
use Rattle.std.proofs.lemmas.List.{append-nil}
use Rattle.std.proofs.Math.Bool.{and-false}
use Rattle.cip_mol.specs.declared.site.Ligand.{Ligand}
use Rattle.cip_mol.specs.declared.site.Ligand.TheVariants.{Vertex, LonePair}
use Rattle.cip_digraph.specs.rings.Alternating.{is_in}
use Rattle.cip_digraph.specs.rules.Auxiliary.{stands_for, ligand_node}
use Rattle.cip_digraph.specs.digraph.Digraph.{Closure, Multiple, Delocalised, Node, real_node, duplicate}
use Rattle.cip_digraph.specs.digraph.Digraph.{neighbour_child, bond_children, edge_children, real_children}
use Rattle.cip_digraph.specs.declared.drawing.graph.Edge.{Edge}
use Rattle.cip_digraph.specs.graph.Graph.{Graph, edges_at, other_end}
use Rattle.cip_digraph.specs.rings.Positions.{is_delocalised}
use Rattle.cip_digraph.specs.graph.SoundGraphs.{IsSound}
use Rattle.cip_digraph.specs.digraph.View.{view_children}
use Rattle.cip_digraph.proofs.lemmas.tree.Branches.{at_root}
use Rattle.cip_digraph.proofs.lemmas.lists.Elements.{Pairwise}
use Rattle.cip_digraph.proofs.lemmas.bonds.Neighbours.{neighbours_differ}

few_if : {X : Type 0} (b : Bool) (x : X) → length (cond b (x ∷ []) []) ≤ 1
few_if true x = omega arith
few_if false x = omega arith

module _ (positions : List (List ℕ)) (root vertex : ℕ) where
  copies_none : (count other : ℕ) (delocalised : Bool)
      → filter (stands_for vertex) (replicate count (cond delocalised (duplicate Delocalised root (root ∷ []))
      (duplicate Multiple other (root ∷ [])))) ≡ []
  copies_none zero other delocalised = refl
  copies_none (suc count) other true = rw (and-false (root == vertex)) (copies_none count other true)
  copies_none (suc count) other false = rw (and-false (other == vertex)) (copies_none count other false)

  no_copies : (count other : ℕ) (counted delocalised : Bool)
      → filter (stands_for vertex) (cond counted
      (replicate count (cond delocalised (duplicate Delocalised root (root ∷ []))
      (duplicate Multiple other (root ∷ [])))) []) ≡ []
  no_copies count other true delocalised = copies_none count other delocalised
  no_copies count other false delocalised = refl

  abbrev nearer : Bool → ℕ → List Node
  nearer is_met other = cond is_met (duplicate Closure other (root ∷ []) ∷ []) (real_node other (root ∷ []) ∷ [])

  near_few : (is_met : Bool) (other : ℕ) → length (filter (stands_for vertex) (nearer is_met other)) ≤ 1
  near_few true other = few_if ((other == vertex) && true) (duplicate Closure other (root ∷ []))
  near_few false other = few_if ((other == vertex) && true) (real_node other (root ∷ []))

  near_none : (is_met : Bool) (other : ℕ) → (other == vertex) ≡ false → filter (stands_for vertex) (nearer is_met other)
      ≡ []
  near_none true other e = ap (λ b. cond (b && true) (duplicate Closure other (root ∷ []) ∷ []) []) e
  near_none false other e = ap (λ b. cond (b && true) (real_node other (root ∷ []) ∷ []) []) e

  of_edge : (edge : Edge) → filter (stands_for vertex) (edge_children positions root [] edge)
      ≡ filter (stands_for vertex) (nearer (is_in (other_end root edge) (root ∷ [])) (other_end root edge))
  of_edge edge =
      let other = other_end root edge in
      rw (
        filter-append (stands_for vertex) (neighbour_child root [] other) (bond_children positions edge root []),
        no_copies (edge.order - 1) other edge.counted ((edge.order == 2) && is_delocalised positions root),
      )
      (append-nil (filter (stands_for vertex) (neighbour_child root [] other)))

  none_stand : (edges : List Edge) → AllByRecursion (λ other. vertex ≢ other) (map (other_end root) edges)
      → filter (stands_for vertex) (flat_map (edge_children positions root []) edges) ≡ []
  none_stand [] all = refl
  none_stand (edge ∷ edges) all =
      let here = edge_children positions root [] edge in
      let rest = flat_map (edge_children positions root []) edges in
      let stands = filter (stands_for vertex) here in
      rw (filter-append (stands_for vertex) here rest, none_stand edges all.1, append-nil stands)
      (of_edge edge ∙ near_none (is_in (other_end root edge) (root ∷ [])) (other_end root edge)
      (ne_eqb (other_end root edge) vertex (λ e. all.0 (sym e))))

  few_stand : (edges : List Edge) → Pairwise ◌≢◌ (map (other_end root) edges)
      → length (filter (stands_for vertex) (flat_map (edge_children positions root []) edges)) ≤ 1
  few_stand [] pairs = omega arith
  few_stand (edge ∷ edges) pairs =
      let other = other_end root edge in
      let here = edge_children positions root [] edge in
      let rest = flat_map (edge_children positions root []) edges in
      let split : filter (stands_for vertex) (here ++ rest) ≡ filter (stands_for vertex) here ++ filter
      (stands_for vertex) rest = filter-append (stands_for vertex) here rest in
      elim (cases_eq other vertex) [
        | inl same ↦
            let none : filter (stands_for vertex) rest ≡ [] =
            none_stand edges (subst (λ v. AllByRecursion (λ o. v ≢ o) (map (other_end root) edges)) same pairs.0) in
            rw (split, none, append-nil (filter (stands_for vertex) here), of_edge edge)
            (near_few (is_in other (root ∷ [])) other)
        | inr apart ↦
            let none : filter (stands_for vertex) here ≡ [] = of_edge edge ∙ near_none (is_in other (root ∷ [])) other
            (ne_eqb other vertex apart) in
            rw (split, none) (few_stand edges pairs.1)
      ]

module _ (graph : Graph) (positions : List (List ℕ)) (sound : IsSound graph) (root : ℕ) where
  few_real : (vertex : ℕ) → length (filter (stands_for vertex) (real_children graph positions root [])) ≤ 1
  unfolding real_children
  few_real vertex = few_stand positions root vertex (edges_at graph root) (neighbours_differ graph sound root)

  pub one_at_most : (ligand : Ligand)
      → length (ligand_node (view_children graph positions (root ∷ []) (real_node root [])) ligand) ≤ 1
  one_at_most LonePair = omega arith
  one_at_most (Vertex vertex) = subst (λ nodes. length (filter (stands_for vertex) nodes) ≤ 1)
      (sym (at_root graph positions root)) (few_real vertex)
