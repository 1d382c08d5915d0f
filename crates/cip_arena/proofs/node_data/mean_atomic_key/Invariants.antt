use Rattle.std.proofs.Common.{◌≡◌, ◌≤◌, ◌*◌, take}
use Rattle.std.specs.List.{sum_by}
use Rattle.cip_digraph.specs.graph.Graph.{vertex_at}
use Rattle.cip_arena.proofs.node_data.mean_atomic_key.Given as goal

abbrev pub invariant-loop-other : goal.invariant-loop-other
invariant-loop-other l = record {
  total : l.total ≡ sum_by (λ other. (vertex_at l.graph other).z) (take l.other-index l.others);
  small : l.total ≤ 255 * l.other-index;
}
