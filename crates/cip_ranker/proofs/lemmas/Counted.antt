-- How many nodes the first two spheres of a root have.
use Rattle.std.proofs.Common.{◌≡◌, ◌<◌, ◌+◌, ◌-◌, ◌==◌, ◌&&◌, ◌||◌, ◌++◌, ◌∙◌, ℕ, zero, suc, Bool, true, false, cond, List, [], ◌∷◌, drop, drop-cons, flat_map, get_or, length, length-append, replicate, refl, sym, ap, subst, arith}
use Rattle.std.proofs.lemmas.List.{append-nil, append_assoc}
use Rattle.std.proofs.lemmas.List.Sums.{sum_by-cons}
use Rattle.std.specs.List.{sum_by}
use Rattle.cip_digraph.specs.declared.drawing.graph.Edge.{Edge}
use Rattle.cip_digraph.specs.declared.nodes.NodeKind.TheVariants.{Closure, Multiple, Delocalised}
use Rattle.cip_digraph.specs.digraph.Digraph.{real_node, duplicate, bond_children, neighbour_child, edge_children, real_children, children, digraph}
use Rattle.cip_digraph.specs.graph.Graph.{Graph, edges_at, other_end}
use Rattle.cip_digraph.specs.rings.Positions.{is_delocalised}

length_flat : {X Y : Type 0} (f : X → List Y) (xs : List X) → length (flat_map f xs) ≡ sum_by (λ x. length (f x)) xs
length_flat f [] = refl
length_flat f (x ∷ xs) =
    length-append (f x) (flat_map f xs) ∙ ap (λ n. length (f x) + n) (length_flat f xs)
    ∙ sym (sum_by-cons (λ x. length (f x)) x xs)

pub flat_append : {X Y : Type 0} (f : X → List Y) (xs ys : List X)
    → flat_map f (xs ++ ys) ≡ flat_map f xs ++ flat_map f ys
flat_append f [] ys = refl
flat_append f (x ∷ xs) ys =
    ap (λ zs. f x ++ zs) (flat_append f xs ys) ∙ sym (append_assoc (f x) (flat_map f xs) (flat_map f ys))

module _ (graph : Graph) (positions : List (List ℕ)) where
  pub below_counted : (vertex : ℕ) (parent_place : List ℕ) → sum_by (λ edge. length (edge_children positions vertex parent_place edge))
      (edges_at graph vertex) ≡ length (real_children graph positions vertex parent_place)
  unfolding real_children
  below_counted vertex parent_place = sym (length_flat (edge_children positions vertex parent_place) (edges_at graph vertex))

  none_by : (count other root : ℕ) (delocalised : Bool) → flat_map (children graph positions) (replicate count
      (cond delocalised (duplicate Delocalised root (root ∷ [])) (duplicate Multiple other (root ∷ [])))) ≡ []
  none_by zero other root delocalised = refl
  none_by (suc count) other root true = none_by count other root true
  none_by (suc count) other root false = none_by count other root false

  -- duplicates have no children
  none_beyond : (counted : Bool) (count other root : ℕ) (delocalised : Bool) → flat_map (children graph positions)
      (cond counted (replicate count
      (cond delocalised (duplicate Delocalised root (root ∷ [])) (duplicate Multiple other (root ∷ [])))) []) ≡ []
  none_beyond true count other root delocalised = none_by count other root delocalised
  none_beyond false count other root delocalised = refl

  near_by : (root other : ℕ) (same : Bool) → length (flat_map (children graph positions)
      (cond (same || false) (duplicate Closure other (root ∷ []) ∷ []) (real_node other (root ∷ []) ∷ [])))
      ≡ cond same 0 (length (real_children graph positions other (root ∷ [])))
  near_by root other true = refl
  near_by root other false = ap length (append-nil (real_children graph positions other (root ∷ [])))

  pub beyond_counted : (root : ℕ) (edge : Edge)
      → length (flat_map (children graph positions) (edge_children positions root [] edge))
      ≡ cond (root == other_end root edge) 0 (length (real_children graph positions (other_end root edge) (root ∷ [])))
  beyond_counted root edge =
      let other = other_end root edge in
      let nearer = neighbour_child root [] other in
      ap length (flat_append (children graph positions) nearer (bond_children positions edge root [])
      ∙ ap (λ ns. flat_map (children graph positions) nearer ++ ns) (none_beyond edge.counted (edge.order - 1) other root
      ((edge.order == 2) && is_delocalised positions root))
      ∙ append-nil (flat_map (children graph positions) nearer))
      ∙ near_by root other (root == other)

  -- what an edge and those after it give in the second sphere
  pub beyond_more : (root : ℕ) (edge : Edge) (edges : List Edge)
      → length (flat_map (children graph positions) (flat_map (edge_children positions root []) (edge ∷ edges)))
      ≡ length (flat_map (children graph positions) (edge_children positions root [] edge))
      + length (flat_map (children graph positions) (flat_map (edge_children positions root []) edges))
  beyond_more root edge edges =
      let here = edge_children positions root [] edge in
      let later = flat_map (edge_children positions root []) edges in
      ap length (flat_append (children graph positions) here later)
      ∙ length-append (flat_map (children graph positions) here) (flat_map (children graph positions) later)

  -- one edge more, of which it is counted what is beyond
  pub one_counted : (root i count more whole : ℕ) (edges : List Edge) (none : Edge) → i < length edges
      → more ≡ length (flat_map (children graph positions) (edge_children positions root [] (get_or edges i none)))
      → count + length (flat_map (children graph positions) (flat_map (edge_children positions root []) (drop i edges)))
      ≡ whole
      → count + more
      + length (flat_map (children graph positions) (flat_map (edge_children positions root []) (drop (i + 1) edges)))
      ≡ whole
  one_counted root i count more whole edges none within is all =
      let second =
      λ (es : List Edge). length (flat_map (children graph positions) (flat_map (edge_children positions root []) es)) in
      let next = ap second (drop-cons edges i none within)
      ∙ beyond_more root (get_or edges i none) (drop (suc i) edges) in
      let same : suc i ≡ i + 1 = omega arith in
      subst (λ k. count + more + second (drop k edges) ≡ whole) same (omega (arith, is, all, next))

  pub around_counted : (root : ℕ) → length (digraph graph positions root 2)
      ≡ 1 + length (real_children graph positions root [])
      + length (flat_map (children graph positions) (flat_map (edge_children positions root []) (edges_at graph root)))
  unfolding real_children
  around_counted root =
      let first = flat_map (edge_children positions root []) (edges_at graph root) in
      ap (λ nodes. length ((real_node root [] ∷ nodes) ++ flat_map (children graph positions) nodes)) (append-nil first)
      ∙ length-append (real_node root [] ∷ first) (flat_map (children graph positions) first)
      ∙ (let sum : suc (length first) ≡ 1 + length first = omega arith in
      ap (λ n. n + length (flat_map (children graph positions) first)) sum)
