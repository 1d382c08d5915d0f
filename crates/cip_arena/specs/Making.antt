-- What is known of the children of a node, and how many they are. Own.
use Rattle.std.specs.Prelude.{
  ◌+◌,
  ◌-◌,
  ◌*◌,
  ◌==◌,
  ◌&&◌,
  ℕ,
  zero,
  suc,
  cond,
  List,
  [],
  ◌∷◌,
  ◌++◌,
  length,
  replicate,
  None,
  Some,
  unwrap_or,
}
use Rattle.std.specs.declared.option.Option.{Option}
use Rattle.std.specs.List.{sum_by, fold}
use Rattle.cip_digraph.specs.declared.nodes.NodeData.{NodeData}
use Rattle.cip_digraph.specs.declared.drawing.graph.Edge.{Edge}
use Rattle.cip_digraph.specs.declared.nodes.NodeKind.{NodeKind}
use Rattle.cip_digraph.specs.declared.nodes.NodeKind.TheVariants.{Real, Closure, Multiple, Delocalised}
use Rattle.cip_digraph.specs.graph.Graph.{Graph, edges_at, other_end, vertex_at}
use Rattle.cip_digraph.specs.rules.Keys.{atom_mass}
use Rattle.cip_digraph.specs.digraph.NodeList.{told_at}
use Rattle.cip_digraph.specs.rings.Positions.{is_delocalised, mean_key}
use Rattle.cip_arena.specs.Walk.{walk, is_above}

-- the vertex of a real node
abbrev pub real_vertex : NodeData → Option ℕ
real_vertex node_data = by_kind node_data.kind
  where
    by_kind : NodeKind → Option ℕ
    by_kind Real = Some node_data.vertex
    by_kind Closure = None
    by_kind Multiple = None
    by_kind Delocalised = None

-- how many nodes an edge gives below a node of a vertex
abbrev pub edge_size : List NodeData → ℕ → ℕ → Edge → ℕ
edge_size all node vertex edge =
    cond (is_above all node (other_end vertex edge)) 0 1 + cond edge.counted (edge.order - 1) 0

abbrev pub size_at : Graph → List NodeData → ℕ → Option ℕ → ℕ
size_at graph all node None = 0
size_at graph all node (Some vertex) = sum_by (edge_size all node vertex) (edges_at graph vertex)

abbrev pub node_size : Graph → List NodeData → ℕ → ℕ
node_size graph all node = size_at graph all node (real_vertex (told_at all node))

-- how many children the nodes from a first one on have, n of them
abbrev pub size_upto : Graph → List NodeData → ℕ → ℕ → ℕ
size_upto graph all first zero = 0
size_upto graph all first (suc count) = size_upto graph all first count + node_size graph all (first + count)

abbrev pub real_told : Graph → List NodeData → ℕ → ℕ → NodeData
real_told graph all node other = record {
  parent = node;
  kind = Real;
  vertex = other;
  counterpart = None;
  atomic = 6 * (vertex_at graph other).z;
  mass = atom_mass (vertex_at graph other);
  as_printed = (told_at all node).as_printed + 1;
  as_corrected = (told_at all node).as_printed + 1;
}

abbrev pub closure_told : Graph → List NodeData → ℕ → ℕ → ℕ → NodeData
closure_told graph all node other at = record {
  parent = node;
  kind = Closure;
  vertex = other;
  counterpart = Some at;
  atomic = 6 * (vertex_at graph other).z;
  mass = 0;
  as_printed = (told_at all at).as_printed;
  as_corrected = (told_at all at).as_printed;
}

-- a neighbour that isn't the parent, by where it is on the way up
abbrev pub neighbour_told : Graph → List NodeData → ℕ → ℕ → Option ℕ → NodeData
neighbour_told graph all node other None = real_told graph all node other
neighbour_told graph all node other (Some at) = closure_told graph all node other at

abbrev pub neighbours_told : Graph → List NodeData → ℕ → ℕ → List NodeData
neighbours_told graph all node other =
    cond (is_above all node other) [] (neighbour_told graph all node other (walk all node other) ∷ [])

-- the duplicate for a multiple bond, of whose other end is at a number
abbrev pub duplicate_told : Graph → List (List ℕ) → List NodeData → ℕ → ℕ → ℕ → ℕ → ℕ → NodeData
duplicate_told graph positions all node vertex other stands order =
    cond ((order == 2) && is_delocalised positions vertex)
    (record {
      parent = node;
      kind = Delocalised;
      vertex = vertex;
      counterpart = None;
      atomic = mean_key graph positions vertex;
      mass = 0;
      as_printed = (told_at all node).as_printed;
      as_corrected = (told_at all node).as_printed;
    })
    (record {
      parent = node;
      kind = Multiple;
      vertex = other;
      counterpart = Some stands;
      atomic = 6 * (vertex_at graph other).z;
      mass = 0;
      as_printed = (told_at all stands).as_printed;
      as_corrected = (told_at all node).as_printed;
    })

abbrev pub duplicates_told : Graph → List (List ℕ) → List NodeData → ℕ → ℕ → ℕ → ℕ → Edge → List NodeData
duplicates_told graph positions all node vertex other stands edge =
    let node_data = duplicate_told graph positions all node vertex other stands edge.order in
    cond edge.counted (replicate (edge.order - 1) node_data) []

-- the nodes so far, and those that an edge gives
abbrev pub with_neighbour : Graph → List NodeData → ℕ → ℕ → List NodeData
with_neighbour graph all node other = all ++ neighbours_told graph all node other

abbrev pub with_edge : Graph → List (List ℕ) → ℕ → ℕ → List NodeData → Edge → List NodeData
with_edge graph positions node vertex all edge =
    let other = other_end vertex edge in
    let nearer = with_neighbour graph all node other in
    nearer ++ duplicates_told graph positions nearer node vertex other (unwrap_or (walk all node other) (length all)) edge

abbrev pub children_at : Graph → List (List ℕ) → List NodeData → ℕ → Option ℕ → List NodeData
children_at graph positions all node None = all
children_at graph positions all node (Some vertex) =
    fold (with_edge graph positions node vertex) all (edges_at graph vertex)

-- the nodes so far, and the children of one
abbrev pub with_children : Graph → List (List ℕ) → List NodeData → ℕ → List NodeData
with_children graph positions all node = children_at graph positions all node (real_vertex (told_at all node))

-- the nodes so far, and the children of those from a first one on, n of them
abbrev pub with_sphere : Graph → List (List ℕ) → List NodeData → ℕ → ℕ → List NodeData
with_sphere graph positions all first zero = all
with_sphere graph positions all first (suc count) =
    with_children graph positions (with_sphere graph positions all first count) (first + count)
