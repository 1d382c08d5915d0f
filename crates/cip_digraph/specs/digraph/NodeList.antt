-- A digraph as the list of what is known of its nodes, by number. Own.
use Rattle.std.specs.Prelude.{ℕ, List, map, None, Some, slice_index_or}
use Rattle.std.specs.declared.option.Option.{Option}
use Rattle.cip_rank.specs.declared.rules.Rules.{Rules}
use Rattle.cip_rank.specs.declared.rules.Rules.TheVariants.{Wording2013, Wording2018}
use Rattle.cip_digraph.specs.declared.nodes.NodeKind.{NodeKind}
use Rattle.cip_digraph.specs.declared.nodes.NodeKind.TheVariants.{Real, Closure, Multiple, Delocalised}
use Rattle.cip_digraph.specs.declared.nodes.NodeData.{NodeData}

abbrev pub nothing_told : NodeData
nothing_told = record {
  parent = 0;
  kind = Real;
  vertex = 0;
  counterpart = None;
  atomic = 0;
  mass = 0;
  as_printed = 0;
  as_corrected = 0;
}

abbrev pub told_at : List NodeData → ℕ → NodeData
told_at all node = slice_index_or all node nothing_told

abbrev pub parents_of : List NodeData → List ℕ
parents_of all = map (λ node_data. node_data.parent) all

-- a delocalised duplicate repeats no one vertex
abbrev pub vertex_told : NodeData → Option ℕ
vertex_told node_data = by_kind node_data.kind
  where
    by_kind : NodeKind → Option ℕ
    by_kind Real = Some node_data.vertex
    by_kind Closure = Some node_data.vertex
    by_kind Multiple = Some node_data.vertex
    by_kind Delocalised = None

abbrev pub distance_told : Rules → NodeData → ℕ
distance_told Wording2013 node_data = node_data.as_printed
distance_told Wording2018 node_data = node_data.as_corrected
