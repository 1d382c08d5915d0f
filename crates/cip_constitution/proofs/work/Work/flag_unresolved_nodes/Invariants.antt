use Rattle.std.proofs.Common.{◌≡◌, length}
use Rattle.cip_constitution.specs.FollowedOut.{with_flags}
use Rattle.cip_constitution.proofs.work.Work.flag_unresolved_nodes.Given as goal

abbrev pub invariant-loop-place : goal.invariant-loop-place
invariant-loop-place l = record {
  flagged : l.flags ≡ with_flags l.self.branched l.place l.fn.flags;
  len : length l.flags ≡ length l.fn.flags;
}
