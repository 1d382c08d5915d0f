-- Nodes with their children below them.
use Rattle.std.proofs.Common.{◌≡◌, ◌<◌, ◌-◌, ℕ, zero, suc, Bool, true, false, cond, List, [], ◌∷◌, ◌++◌, drop, map}
use Rattle.std.proofs.Common.{replicate, length, slice_index, refl, sym, ap, ◌∙◌, arith, flat_map}
use Rattle.std.proofs.lemmas.List.{map-append}
use Rattle.cip_digraph.specs.declared.drawing.graph.Edge.{Edge}
use Rattle.cip_digraph.specs.declared.nodes.NodeKind.TheVariants.{Closure, Multiple, Delocalised}
use Rattle.cip_digraph.specs.digraph.Digraph.{Node, duplicate, begins_with, neighbour_child, edge_children}
use Rattle.cip_digraph.specs.digraph.Digraph.{path_children, real_children}
use Rattle.cip_digraph.specs.digraph.View.{real_at}
use Rattle.cip_digraph.specs.graph.Graph.{Graph, edges_at, other_end}
use Rattle.cip_digraph.specs.rings.Alternating.{is_in}
use Rattle.cip_tree.specs.Along.{neighbour_below, edge_below, copies, is_shifted, duplicate_for}
use Rattle.cip_tree.specs.Branches.{Branch, gathered}
use Rattle.cip_tree.specs.Boxed.{label_of, bare, grown}

module _ (graph : Graph) (positions : List (List ℕ)) where
  -- a closure has nothing below it
  pub bare_closure : (spheres vertex : ℕ) (path : List ℕ)
      → bare graph positions (duplicate Closure vertex path) ≡ grown graph positions spheres (duplicate Closure vertex path)
  unfolding grown
  bare_closure zero vertex path = refl
  bare_closure (suc spheres) vertex path = refl

  bare_by : (spheres one other : ℕ) (path : List ℕ) (both : Bool)
      → let node = cond both (duplicate Delocalised one path) (duplicate Multiple other path) in
      bare graph positions node ≡ grown graph positions spheres node
  unfolding grown
  bare_by zero one other path both = refl
  bare_by (suc spheres) one other path true = refl
  bare_by (suc spheres) one other path false = refl

  -- nor has the duplicate for a multiple bond
  bare_duplicate : (spheres : ℕ) (path : List ℕ) (edge : Edge)
      → bare graph positions (duplicate_for positions path edge)
      ≡ grown graph positions spheres (duplicate_for positions path edge)
  bare_duplicate spheres path edge =
      let vertex = slice_index path 0 in
      bare_by spheres vertex (other_end vertex edge) path (is_shifted positions vertex edge)

  map_replicate : (f : Node → Branch) (n : ℕ) (node : Node) → map f (replicate n node) ≡ replicate n (f node)
  map_replicate f zero node = refl
  map_replicate f (suc n) node = ap (λ bs. f node ∷ bs) (map_replicate f n node)

  -- what an edge gives
  pub edge_grown : (spheres : ℕ) (path : List ℕ) (edge : Edge)
      → map (grown graph positions spheres) (neighbour_below path (other_end (slice_index path 0) edge))
      ++ replicate (copies edge) (bare graph positions (duplicate_for positions path edge))
      ≡ map (grown graph positions spheres) (edge_below positions path edge)
  edge_grown spheres path edge =
      let nearer = neighbour_below path (other_end (slice_index path 0) edge) in
      let node = duplicate_for positions path edge in
      ap (λ bs. map (grown graph positions spheres) nearer ++ bs)
      (ap (replicate (copies edge)) (bare_duplicate spheres path edge)
      ∙ sym (map_replicate (grown graph positions spheres) (copies edge) node))
      ∙ sym (map-append (grown graph positions spheres) nearer (replicate (copies edge) node))

  near_by : (path : List ℕ) (other : ℕ) (above on : Bool) → begins_with other (drop 1 path) ≡ above → is_in other path ≡ on
      → neighbour_below path other
      ≡ cond above [] (cond on (duplicate Closure other path ∷ []) (real_at (other ∷ path) ∷ []))
  near_by path other above on is_above is_on =
      ap (λ b. cond b [] (cond (is_in other path) (duplicate Closure other path ∷ []) (real_at (other ∷ path) ∷ [])))
      is_above
      ∙ ap (λ b. cond above [] (cond b (duplicate Closure other path ∷ []) (real_at (other ∷ path) ∷ []))) is_on

  -- what a neighbour that isn't the parent gives
  pub closure_grown : (spheres : ℕ) (path : List ℕ) (other : ℕ) (branch : Branch)
      → begins_with other (drop 1 path) ≡ false → is_in other path ≡ true
      → branch ≡ bare graph positions (duplicate Closure other path)
      → branch ∷ [] ≡ map (grown graph positions spheres) (neighbour_below path other)
  closure_grown spheres path other branch above on is =
      ap (λ b. b ∷ []) (is ∙ bare_closure spheres other path)
      ∙ ap (map (grown graph positions spheres)) (sym (near_by path other false true above on))

  pub real_grown : (spheres : ℕ) (path : List ℕ) (other : ℕ) (branch : Branch)
      → begins_with other (drop 1 path) ≡ false → is_in other path ≡ false
      → branch ≡ grown graph positions spheres (real_at (other ∷ path))
      → branch ∷ [] ≡ map (grown graph positions spheres) (neighbour_below path other)
  real_grown spheres path other branch above on is =
      ap (λ b. b ∷ []) is ∙ ap (map (grown graph positions spheres)) (sym (near_by path other false false above on))

  copies_by : (counted : Bool) (n : ℕ) (node : Node)
      → replicate (cond counted n 0) node ≡ cond counted (replicate n node) []
  copies_by true n node = refl
  copies_by false n node = refl

  by_edges : (vertex : ℕ) (up : List ℕ) (edges : List Edge)
      → flat_map (edge_below positions (vertex ∷ up)) edges ≡ flat_map (edge_children positions vertex up) edges
  by_edges vertex up [] = refl
  by_edges vertex up (edge ∷ edges) =
      let nearer = neighbour_child vertex up (other_end vertex edge) in
      ap (λ ns. (nearer ++ ns) ++ flat_map (edge_below positions (vertex ∷ up)) edges)
      (copies_by edge.counted (edge.order - 1) (duplicate_for positions (vertex ∷ up) edge))
      ∙ ap (λ ns. edge_children positions vertex up edge ++ ns) (by_edges vertex up edges)

  by_path : (path : List ℕ) → 0 < length path
      → flat_map (edge_below positions path) (edges_at graph (slice_index path 0)) ≡ path_children graph positions path
  unfolding real_children
  by_path [] some = absurd (omega (arith, some))
  by_path (vertex ∷ up) some = by_edges vertex up (edges_at graph vertex)

  pub grown_at_once : (spheres : ℕ) (path : List ℕ) (branches : List Branch) → spheres ≡ 0 → branches ≡ []
      → record { label = label_of graph positions (real_at path); below = gathered branches }
      ≡ grown graph positions spheres (real_at path)
  unfolding grown
  grown_at_once zero path branches e empty =
      ap (λ bs. record { label = label_of graph positions (real_at path); below = gathered bs }) empty
  grown_at_once (suc spheres) path branches e empty = absurd (omega (arith, e))

  -- a real node, with what its edges give
  pub grown_around : (spheres : ℕ) (path : List ℕ) (branches : List Branch) → 0 < spheres → 0 < length path
      → branches ≡ map (grown graph positions (spheres - 1))
      (flat_map (edge_below positions path) (edges_at graph (slice_index path 0)))
      → record { label = label_of graph positions (real_at path); below = gathered branches }
      ≡ grown graph positions spheres (real_at path)
  unfolding grown
  grown_around zero path branches e some same = absurd (omega (arith, e))
  grown_around (suc spheres) [] branches e some same = absurd (omega (arith, some))
  grown_around (suc spheres) (vertex ∷ up) branches e some same =
      let less : suc spheres - 1 ≡ spheres = omega arith in
      ap (λ bs. record { label = label_of graph positions (real_at (vertex ∷ up)); below = gathered bs })
      (same ∙ ap (map (grown graph positions (suc spheres - 1))) (by_path (vertex ∷ up) some)
      ∙ ap (λ n. map (grown graph positions n) (path_children graph positions (vertex ∷ up))) less)
