use Rattle.std.proofs.Common.{◌≡◌, ◌≤◌, ◌-◌}
use Rattle.cip_arena.specs.Making.{size_upto}
use Rattle.cip_arena.proofs.sphere_sizes.sphere_size.Given as goal

abbrev pub invariant-loop-node : goal.invariant-loop-node
invariant-loop-node l = record {
  low : l.fn.first ≤ l.node;
  size : l.size ≡ size_upto l.graph l.nodes l.first (l.node - l.first);
  fits : l.size ≤ l.room;
}
