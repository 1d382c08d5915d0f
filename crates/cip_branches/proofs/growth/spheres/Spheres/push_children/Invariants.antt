use Rattle.std.proofs.Common.{◌≡◌, ◌≤◌, ◌-◌}
use Rattle.std.specs.List.{range_with_len}
use Rattle.cip_branches.specs.SphereColumns.{with_nodes}
use Rattle.cip_branches.proofs.growth.spheres.Spheres.push_children.Given as goal

abbrev pub invariant-loop-child : goal.invariant-loop-child
invariant-loop-child l = record {
  high : l.child ≤ l.past;
  pushed : l.self ≡ with_nodes (range_with_len l.first (l.child - l.first)) l.branch l.parent_place l.number l.fn.self;
}
