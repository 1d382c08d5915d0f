use Rattle.std.proofs.Common.{◌≡◌, ◌≤◌, replicate, false, vec_capacity}
use Rattle.cip_digraph.proofs.unit_flags.clear_flags.Given as goal

abbrev pub invariant-loop : goal.invariant-loop
invariant-loop l = record {
  none : l.flags.items ≡ replicate l.counter false;
  room : vec_capacity l.fn.flags ≤ vec_capacity l.flags;
}
