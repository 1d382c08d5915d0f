-- The keys of Rules 1a and 2 by the numbers of nodes. Own.
use Rattle.std.specs.Prelude.{ℤ, pos, List, map}
use Rattle.cip_digraph.specs.declared.nodes.NodeData.{NodeData}

abbrev pub atomic_keys : List NodeData → List ℤ
atomic_keys all = map (λ node_data. pos node_data.atomic) all

abbrev pub mass_keys : List NodeData → List ℤ
mass_keys all = map (λ node_data. pos node_data.mass) all
