use Rattle.std.proofs.Common.{◌≡◌, drop}
use Rattle.cip_ranker.specs.Standing.{found_of}
use Rattle.cip_ranker.proofs.decisions.get.Given as goal

abbrev pub invariant-loop-one : goal.invariant-loop-one
invariant-loop-one l = found_of l.a l.b (drop l.one-index l.requested) ≡ found_of l.a l.b l.requested
