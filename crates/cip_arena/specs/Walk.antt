-- The way from a node up to the root, in the list of what is known of nodes. Own.
use Rattle.std.specs.Prelude.{
  ◌≡◌,
  ◌<◌,
  ◌≤◌,
  ◌==◌,
  ℕ,
  zero,
  suc,
  Bool,
  true,
  false,
  cond,
  List,
  length,
  None,
  Some,
  slice_index_or,
  slice_set,
}
use Rattle.std.specs.declared.option.Option.{Option}
use Rattle.cip_digraph.specs.declared.nodes.NodeData.{NodeData}
use Rattle.cip_digraph.specs.digraph.NodeList.{told_at}

-- the first node of a vertex, from a node on upwards, among n
abbrev pub walk_on : List NodeData → ℕ → ℕ → ℕ → Option ℕ
walk_on all zero node vertex = None
walk_on all (suc more) node vertex =
    cond ((told_at all node).vertex == vertex) (Some node)
    (cond (node == 0) None (walk_on all more (told_at all node).parent vertex))

abbrev pub walk : List NodeData → ℕ → ℕ → Option ℕ
walk all node vertex = walk_on all (suc node) node vertex

-- parents are before their children
pub record IsEarlier (all : List NodeData) : Type 0 where
  pub earlier : (node : ℕ) → 0 < node → node < length all → (told_at all node).parent < node

-- the parent of a node has this vertex
abbrev pub is_above : List NodeData → ℕ → ℕ → Bool
is_above all node vertex = cond (node == 0) false ((told_at all (told_at all node).parent).vertex == vertex)

-- the vertex of the parent of a node
abbrev pub vertex_above : List NodeData → ℕ → Option ℕ
vertex_above all node = cond (node == 0) None (Some (told_at all (told_at all node).parent).vertex)

-- a vertex is that of the parent, and not the node's own
abbrev pub comes_from : Option ℕ → ℕ → ℕ → Bool
comes_from None own vertex = false
comes_from (Some above) own vertex = cond (own == vertex) false (above == vertex)

-- the later list has the nodes of the earlier one at their places
pub record Keeps (old new : List NodeData) : Type 0 where
  pub longer : length old ≤ length new
  pub same : (node : ℕ) → node < length old → told_at new node ≡ told_at old node

-- the flag of a vertex is set, where the column reaches so far
abbrev pub with_flag : ℕ → List Bool → List Bool
with_flag vertex flags = slice_set flags vertex true

-- the flag of each node's vertex is set, where the column reaches so far
pub record IsFlagged (flags : List Bool) (all : List NodeData) : Type 0 where
  pub each : (node : ℕ) → node < length all → slice_index_or flags (told_at all node).vertex true ≡ true
