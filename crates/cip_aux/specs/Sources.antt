-- The real node whose sphere is the distance key of a node, by number, in either wording of Rule 1b. IUPAC 2013, P-92.2,
-- and Hanson et al. 2018; that a delocalised duplicate takes that of its carrier is own.
use Rattle.std.specs.Prelude.{ℕ, ◌==◌, cond, List, slice_index, unwrap_or}
use Rattle.cip_rank.specs.declared.rules.Rules.{Rules}
use Rattle.cip_rank.specs.declared.rules.Rules.TheVariants.{Wording2013, Wording2018}
use Rattle.cip_digraph.specs.declared.nodes.NodeKind.{NodeKind}
use Rattle.cip_digraph.specs.declared.nodes.NodeKind.TheVariants.{Real, Closure, Multiple, Delocalised}
use Rattle.cip_digraph.specs.declared.nodes.NodeData.{NodeData}
use Rattle.cip_digraph.specs.digraph.NodeList.{told_at, parents_of}

-- of a node itself, its counterpart and the one that carries it, that whose sphere is the distance key
abbrev pub node_by : ℕ → ℕ → ℕ → Rules → NodeKind → ℕ
node_by node counterpart carrier Wording2013 Multiple = counterpart
node_by node counterpart carrier Wording2018 Multiple = carrier
node_by node counterpart carrier wording Closure = counterpart
node_by node counterpart carrier wording Real = node
node_by node counterpart carrier wording Delocalised = carrier

abbrev pub carrier_of : List NodeData → ℕ → ℕ
carrier_of all node = cond (node == 0) 0 (slice_index (parents_of all) node)

abbrev pub distance_node : Rules → List NodeData → ℕ → ℕ
distance_node rules all node =
    let node_data = told_at all node in
    node_by node (unwrap_or node_data.counterpart 0) (carrier_of all node) rules node_data.kind
