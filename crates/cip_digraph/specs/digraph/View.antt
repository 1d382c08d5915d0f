-- A digraph seen from one of its real nodes: the same nodes and neighbours, with that node as the root. IUPAC 2013,
-- P-92.1.4: a descriptor inside a digraph is found from the hierarchical order seen from there. Distances are own.
use Rattle.std.specs.Prelude.{ℕ, zero, suc, ◌+◌, ◌-◌, ◌*◌, ◌==◌, ◌&&◌, Bool, true, false, not, List, [], ◌∷◌, ◌++◌, filter, flat_map, length, drop, nat_le, pos, None, if◌then◌else◌}
use Rattle.std.specs.declared.option.Option.{Option}
use Rattle.cip_rank.specs.declared.rules.Rules.{Rules}
use Rattle.cip_mol.specs.declared.labels.descriptor.Descriptor.{Descriptor}
use Rattle.cip_digraph.specs.graph.Graph.{Graph}
use Rattle.cip_digraph.specs.digraph.Digraph.{Node, Real, real_node, duplicate, is_real, children}
use Rattle.cip_digraph.specs.rules.Keys.{atomic_key, distance_key, mass_key, lower_precedes}
use Rattle.cip_digraph.specs.rules.Orders.{Seen}

abbrev pub same_numbers : List ℕ → List ℕ → Bool
same_numbers [] [] = true
same_numbers [] (m ∷ ms) = false
same_numbers (n ∷ ns) [] = false
same_numbers (n ∷ ns) (m ∷ ms) = (n == m) && same_numbers ns ms

-- a path is the part at the root's end of another one, or all of it
abbrev pub is_end_of : List ℕ → List ℕ → Bool
is_end_of up path = nat_le (length up) (length path) && same_numbers (drop (length path - length up) path) up

-- the real node of a path
abbrev pub real_at : List ℕ → Node
real_at [] = duplicate Real 0 []
real_at (vertex ∷ up) = real_node vertex up

-- a real node on the way from the node of a path to the root of the digraph, both of these with it
abbrev pub is_on_way : List ℕ → Node → Bool
is_on_way from node = is_real node.kind && is_end_of node.path from

-- the node above another one: none above the root
abbrev pub parent : List ℕ → List Node
parent [] = []
parent (vertex ∷ []) = []
parent (vertex ∷ next ∷ up) = real_node next up ∷ []

-- on the way to the root the children off the way and the parent, elsewhere the children as they are
unfoldable pub view_children : Graph → List (List ℕ) → List ℕ → Node → List Node
view_children graph positions from node =
    if is_on_way from node
    then filter (λ child. not (is_on_way from child)) (children graph positions node) ++ parent node.path
    else children graph positions node

-- how many vertices two paths have in common at the root's end
abbrev pub common : List ℕ → List ℕ → ℕ
common path [] = 0
common path (vertex ∷ up) = if is_end_of (vertex ∷ up) path then length up + 1 else common path up

-- how far the real nodes of two paths are apart: the sphere of the one, seen from the other
abbrev pub apart : List ℕ → List ℕ → ℕ
apart path other = length path + length other - 2 * common path other

-- the outermost sphere with a node, counted from the sphere of some nodes; n are looked at
abbrev pub height_below : {N : Type 0} → (N → List N) → ℕ → List N → ℕ
height_below children zero nodes = 0
height_below {N} children (suc more) nodes =
    let below = flat_map children nodes in
    let further = height_below children more below in
    elim below as (λ _. ℕ) [ [] ↦ 0 | node ∷ others ↦ further + 1 ]

-- Descriptors are on real nodes, by their paths. No way in the digraph is longer than twice the number of vertices.
abbrev pub seen_from : Rules → Graph → List (List ℕ) → List ℕ → (List ℕ → Option Descriptor) → Seen Node
seen_from rules graph positions from descriptor = record {
  children = view_children graph positions from;
  height = height_below (view_children graph positions from) (2 * length graph.vertices + 2) (real_at from ∷ []);
  atomic = λ node. pos (atomic_key graph positions node);
  distance = λ node. lower_precedes (distance_key rules (apart from) node);
  mass = λ node. pos (mass_key graph node);
  descriptor = λ node. if is_real node.kind then descriptor node.path else None;
}
