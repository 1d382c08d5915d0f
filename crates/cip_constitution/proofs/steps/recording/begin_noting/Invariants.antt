use Rattle.std.proofs.Common.{◌≡◌, ◌≤◌, ◌++◌, drop, map, vec_capacity}
use Rattle.cip_constitution.specs.Noting.{branch_at, asked_by}
use Rattle.cip_constitution.proofs.steps.recording.begin_noting.Given as goal

abbrev pub invariant-loop-pair : goal.invariant-loop-pair
invariant-loop-pair l = record {
  so_far : l.noted.items ++ map (asked_by (branch_at l.arena.nodes)) (drop l.pair-index l.pairs)
      ≡ map (asked_by (branch_at l.arena.nodes)) l.pairs;
  room : vec_capacity l.fn.noted ≤ vec_capacity l.noted;
}
