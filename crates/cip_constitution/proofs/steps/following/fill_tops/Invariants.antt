use Rattle.std.proofs.Common.{◌≡◌, ◌≤◌, ◌-◌}
use Rattle.std.specs.List.{range_with_len}
use Rattle.cip_constitution.proofs.steps.following.fill_tops.Given as goal

abbrev pub invariant-loop-node : goal.invariant-loop-node
invariant-loop-node l = record {
  high : l.node ≤ l.past;
  filled : l.tops ≡ record l.fn.tops { items = range_with_len 1 (l.node - 1) };
}
