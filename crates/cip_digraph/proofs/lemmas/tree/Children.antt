-- What the children of a node are, and what passes from nodes to their children.
use Rattle.std.proofs.Common.{◌≡◌, ◌-◌, ℕ, zero, suc, Bool, true, false, cond, ◌&&◌, ◌==◌, List, [], ◌∷◌, refl}
use Rattle.std.proofs.Common.{replicate}
use Rattle.std.specs.List.{AllByRecursion}
use Rattle.cip_digraph.specs.rings.Alternating.{is_in}
use Rattle.cip_digraph.specs.digraph.Digraph.{Closure, Multiple, Delocalised, Node, real_node, duplicate, begins_with}
use Rattle.cip_digraph.specs.digraph.Digraph.{neighbour_child, bond_children, edge_children, real_children, children}
use Rattle.cip_digraph.specs.digraph.Digraph.{sphere}
use Rattle.cip_digraph.specs.declared.drawing.graph.Edge.{Edge}
use Rattle.cip_digraph.specs.graph.Graph.{Graph, edges_at, other_end}
use Rattle.cip_digraph.specs.rings.Positions.{is_delocalised}
use Rattle.cip_digraph.proofs.lemmas.lists.Elements.{all_append, all_replicate, all_flat}

-- the edges at a vertex lead to vertices that W holds of
abbrev pub Leads : Graph → (ℕ → Type 0) → ℕ → Type 0
Leads graph W vertex = AllByRecursion (λ edge. W (other_end vertex edge)) (edges_at graph vertex)

-- C holds of each child of the real node of a vertex that came along a path, where W holds of the neighbours
pub record Passed (W : ℕ → Type 0) (vertex : ℕ) (up : List ℕ) (C : Node → Type 0) : Type 0 where
  pub reals : (other : ℕ) → W other → is_in other (vertex ∷ up) ≡ false → C (real_node other (vertex ∷ up))
  pub closures : (other : ℕ) → W other → is_in other (vertex ∷ up) ≡ true → C (duplicate Closure other (vertex ∷ up))
  pub multiples : (other : ℕ) → W other → C (duplicate Multiple other (vertex ∷ up))
  pub delocaliseds : C (duplicate Delocalised vertex (vertex ∷ up))

module _ (W : ℕ → Type 0) (vertex : ℕ) (up : List ℕ) (C : Node → Type 0) (p : Passed W vertex up C) where
  neighbour_by : (other : ℕ) (is_parent is_met : Bool) → W other → is_in other (vertex ∷ up) ≡ is_met
      → AllByRecursion C
      (cond is_parent []
      (cond is_met (duplicate Closure other (vertex ∷ up) ∷ []) (real_node other (vertex ∷ up) ∷ [])))
  neighbour_by other true is_met h e = tt
  neighbour_by other false true h e = (p.closures other h e, tt)
  neighbour_by other false false h e = (p.reals other h e, tt)

  duplicates_by : (other count : ℕ) (counted delocalised : Bool) → W other
      → AllByRecursion C
      (cond counted
      (replicate count
      (cond delocalised (duplicate Delocalised vertex (vertex ∷ up)) (duplicate Multiple other (vertex ∷ up)))) [])
  duplicates_by other count false delocalised h = tt
  duplicates_by other count true true h = all_replicate C count _ p.delocaliseds
  duplicates_by other count true false h = all_replicate C count _ (p.multiples other h)

  edge_passes : (positions : List (List ℕ)) (edge : Edge) → W (other_end vertex edge)
      → AllByRecursion C (edge_children positions vertex up edge)
  edge_passes positions edge h =
      all_append C (neighbour_child vertex up (other_end vertex edge)) (bond_children positions edge vertex up)
      (neighbour_by (other_end vertex edge) (begins_with (other_end vertex edge) up)
      (is_in (other_end vertex edge) (vertex ∷ up)) h refl)
      (duplicates_by (other_end vertex edge) (edge.order - 1) edge.counted
      ((edge.order == 2) && is_delocalised positions vertex) h)

  pub children_have : (graph : Graph) (positions : List (List ℕ)) → Leads graph W vertex
      → AllByRecursion C (real_children graph positions vertex up)
  unfolding real_children
  children_have graph positions h =
      all_flat (λ edge. W (other_end vertex edge)) C (edge_children positions vertex up)
      (λ edge. edge_passes positions edge) (edges_at graph vertex) h

-- what passes from each sphere to the next one
pub record Passes (graph : Graph) (positions : List (List ℕ)) (root : ℕ) (P : ℕ → Node → Type 0) : Type 0 where
  pub at_root : P 0 (real_node root [])
  pub step : (number : ℕ) (node : Node) → P number node
      → AllByRecursion (P (suc number)) (children graph positions node)

pub sphere_has : (graph : Graph) (positions : List (List ℕ)) (root : ℕ) (P : ℕ → Node → Type 0)
    → Passes graph positions root P
    → (number : ℕ) → AllByRecursion (P number) (sphere graph positions root number)
sphere_has graph positions root P p zero = (p.at_root, tt)
sphere_has graph positions root P p (suc number) =
    all_flat (P number) (P (suc number)) (children graph positions) (λ node h. p.step number node h)
    (sphere graph positions root number)
    (sphere_has graph positions root P p number)
