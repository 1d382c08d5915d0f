-- What is next to the root of a view: the children of its node and the parent.
use Rattle.std.proofs.Common.{◌≡◌, ℕ, zero, suc, ◌<◌, ◌≤◌, ◌&&◌, Bool, true, false, cond, not, List, [], ◌∷◌, ◌++◌, map, length, slice_index, refl, sym, ap, ◌∙◌, arith}
use Rattle.std.specs.Prelude.{filter, Some}
use Rattle.std.specs.List.{AllByRecursion}
use Rattle.std.proofs.lemmas.List.{map-append}
use Rattle.cip_mol.specs.declared.site.Ligand.{Ligand}
use Rattle.cip_mol.specs.declared.site.Ligand.TheVariants.{Vertex, LonePair}
use Rattle.cip_rank.specs.Tree.{children_of}
use Rattle.cip_digraph.specs.rules.Auxiliary.{stands_for, ligand_node}
use Rattle.cip_digraph.specs.digraph.Digraph.{Node, is_real, children}
use Rattle.cip_digraph.specs.graph.Graph.{Graph}
use Rattle.cip_digraph.specs.digraph.Telling.{node_at}
use Rattle.cip_digraph.specs.digraph.View.{is_end_of, is_on_way, parent, real_at, view_children}
use Rattle.cip_aux.specs.Views.{DigraphView, Shows, path_at, IsReal}
use Rattle.cip_aux.specs.Neighbours.{parent_of, neighbours_of, first_where, ligand_number, ligand_at}
use Rattle.cip_digraph.specs.digraph.NodeList.{parents_of}
use Rattle.cip_aux.proofs.lemmas.PathEnds.{end_itself, end_long}
use Rattle.cip_aux.proofs.lemmas.Paths.{IsBelow, children_below, within_parents, parent_real, path_is, some_path, real_is}

child_off_by : (kind_real : Bool) (child_path path : List ℕ) → (kind_real ≡ true → length path < length child_path)
    → (kind_real && is_end_of child_path path) ≡ false
child_off_by true child_path path h = end_long child_path path (h refl)
child_off_by false child_path path h = refl

-- no child is on the way to the root
child_off : (node child : Node) → IsBelow node.kind node.path child → is_on_way node.path child ≡ false
child_off node child b = child_off_by (is_real child.kind) child.path node.path (λ e.
    let longer : length child.path ≡ suc (length node.path) = ap (λ (n : Node). length n.path) (b.real e) in
    omega (arith, longer))

all_stay : (test : Node → Bool) (nodes : List Node) → AllByRecursion (λ node. test node ≡ false) nodes
    → filter (λ node. not (test node)) nodes ≡ nodes
all_stay test [] all = refl
all_stay test (node ∷ nodes) all = rw (all.0, all_stay test nodes all.1) refl

all_off : (node : Node) (nodes : List Node) → AllByRecursion (IsBelow node.kind node.path) nodes
    → AllByRecursion (λ child. is_on_way node.path child ≡ false) nodes
all_off node [] all = tt
all_off node (child ∷ nodes) all = (child_off node child all.0, all_off node nodes all.1)

on_way_itself : (node : Node) → is_real node.kind ≡ true → is_on_way node.path node ≡ true
on_way_itself node real = rw (real, end_itself node.path) refl

view_at : (graph : Graph) (positions : List (List ℕ)) (node : Node) → is_real node.kind ≡ true
    → view_children graph positions node.path node ≡ children graph positions node ++ parent node.path
unfolding view_children
view_at graph positions node real =
    ap (λ b. cond b (filter (λ child. not (is_on_way node.path child)) (children graph positions node)
    ++ parent node.path) (children graph positions node)) (on_way_itself node real)
    ∙ ap (λ (nodes : List Node). nodes ++ parent node.path)
    (all_stay (is_on_way node.path) (children graph positions node)
    (all_off node (children graph positions node) (children_below graph positions node)))

parent_is : (vertex : ℕ) (path : List ℕ) → 1 ≤ length path → parent (vertex ∷ path) ≡ real_at path ∷ []
parent_is vertex [] some = absurd (omega arith)
parent_is vertex (next ∷ up) some = refl

-- a ligand, of which the first node alone counts
abbrev pub front : List Node → List Node
front [] = []
front (node ∷ others) = node ∷ []

module _ (sight : DigraphView) (s : Shows sight) where
  parent_at : (n : ℕ) → IsReal sight.nodes n
      → parent (path_at sight.nodes n) ≡ map (node_at sight.nodes) (parent_of (parents_of sight.node_data) n)
  parent_at zero r = ap (λ (node : Node). parent node.path) s.node_data.whole.at_root
  parent_at (suc n) r =
      let up = parent_real sight s (suc n) (omega arith) r.within in
      ap parent (path_is sight s (suc n) (omega arith) r)
      ∙ parent_is (node_at sight.nodes (suc n)).vertex
      (path_at sight.nodes (slice_index (parents_of sight.node_data) (suc n)))
      (some_path sight s (slice_index (parents_of sight.node_data) (suc n)) up)
      ∙ ap (λ (node : Node). node ∷ []) (sym (real_is sight s (slice_index (parents_of sight.node_data) (suc n)) up))

  -- the nodes next to the root of a view, by number
  pub view_is : (n : ℕ) → IsReal sight.nodes n
      → view_children sight.graph sight.positions (path_at sight.nodes n) (real_at (path_at sight.nodes n))
      ≡ map (node_at sight.nodes) (neighbours_of (parents_of sight.node_data) n)
  view_is n r =
      ap (view_children sight.graph sight.positions (path_at sight.nodes n)) (sym (real_is sight s n r))
      ∙ view_at sight.graph sight.positions (node_at sight.nodes n) r.real
      ∙ ap (λ (below : List Node). below ++ parent (path_at sight.nodes n))
      (sym (s.node_data.whole.children n (within_parents sight s n r.within)))
      ∙ ap (λ (up : List Node). map (node_at sight.nodes) (children_of (parents_of sight.node_data) n) ++ up) (parent_at n r)
      ∙ sym (map-append (node_at sight.nodes) (children_of (parents_of sight.node_data) n)
      (parent_of (parents_of sight.node_data) n))

  front_is : (test : Node → Bool) (ns : List ℕ)
      → front (filter test (map (node_at sight.nodes) ns))
      ≡ ligand_at sight.nodes (first_where (λ n. test (node_at sight.nodes n)) ns)
  front_is test [] = refl
  front_is test (n ∷ ns) = by (test (node_at sight.nodes n)) (front_is test ns)
    where
      by : (b : Bool) → front (filter test (map (node_at sight.nodes) ns))
          ≡ ligand_at sight.nodes (first_where (λ n. test (node_at sight.nodes n)) ns)
          → front (cond b (node_at sight.nodes n ∷ filter test (map (node_at sight.nodes) ns))
          (filter test (map (node_at sight.nodes) ns)))
          ≡ ligand_at sight.nodes (cond b (Some n) (first_where (λ n. test (node_at sight.nodes n)) ns))
      by true e = refl
      by false e = e

  pub ligand_is : (n : ℕ) → IsReal sight.nodes n → (ligand : Ligand)
      → front (ligand_node (view_children sight.graph sight.positions (path_at sight.nodes n)
      (real_at (path_at sight.nodes n))) ligand)
      ≡ ligand_at sight.nodes (ligand_number (node_at sight.nodes) (parents_of sight.node_data) n ligand)
  ligand_is n r LonePair = refl
  ligand_is n r (Vertex vertex) =
      ap (λ (below : List Node). front (filter (stands_for vertex) below)) (view_is n r)
      ∙ front_is (stands_for vertex) (neighbours_of (parents_of sight.node_data) n)
