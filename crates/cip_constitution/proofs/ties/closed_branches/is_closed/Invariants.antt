use Rattle.std.proofs.Common.{◌≡◌, ◌<◌, ◌≤◌, ℕ, true, false, length, vec_capacity}
use Rattle.std.specs.Prelude.{slice_index_or}
use Rattle.cip_digraph.specs.digraph.NodeList.{parents_of}
use Rattle.cip_constitution.specs.Closing.{is_under}
use Rattle.cip_constitution.specs.Trials.{node_data, is_open_in}
use Rattle.cip_constitution.proofs.ties.closed_branches.is_closed.Given as goal

abbrev pub invariant-loop-node : goal.invariant-loop-node
invariant-loop-node l = record {
  len : length l.under.items ≡ l.node;
  room : vec_capacity l.fn.under ≤ vec_capacity l.under;
  under : (k : ℕ) → k < l.node → slice_index_or l.under.items k false ≡ is_under (parents_of l.arena.nodes) l.top k;
  none : (k : ℕ) → k < l.node → is_under (parents_of l.arena.nodes) l.top k ≡ true
      → is_open_in (node_data l.setting) l.arena k ≡ false;
}
