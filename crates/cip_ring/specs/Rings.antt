-- The smallest ring through an edge. Own.
use Rattle.std.specs.Prelude.{◌≡◌, ◌≤◌, ◌+◌, ℕ, false, Some, None, List, length, slice_index_or}
use Rattle.std.specs.declared.option.Option.{Option}
use Rattle.cip_digraph.specs.graph.Graph.{Graph}
use Rattle.cip_digraph.specs.rings.RingsThrough.{IsRingThrough}
use Rattle.cip_digraph.specs.declared.drawing.graph.Edge.{Edge}

abbrev pub edge_at : Graph → ℕ → Edge
edge_at graph edge = slice_index_or graph.edges edge (record { a = 0; b = 0; order = 0; counted = false })

-- a ring of n atoms lies round the edge, and none of fewer
pub record IsSmallestRing (graph : Graph) (edge : Edge) (atoms : ℕ) : Type 0 where
  pub there : (others : List ℕ) × (IsRingThrough graph edge.a edge.b others × (length others + 1 ≡ atoms))
  pub least : (others : List ℕ) → IsRingThrough graph edge.a edge.b others → atoms ≤ length others + 1

pub record IsInNoRing (graph : Graph) (edge : Edge) : Type 0 where
  pub none : (others : List ℕ) → IsRingThrough graph edge.a edge.b others → ⊥

abbrev pub TellsRing : Graph → Edge → Option ℕ → Type 0
TellsRing graph edge (Some atoms) = IsSmallestRing graph edge atoms
TellsRing graph edge None = IsInNoRing graph edge
