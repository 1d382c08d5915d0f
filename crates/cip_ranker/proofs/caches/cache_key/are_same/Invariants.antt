use Rattle.std.proofs.Common.{◌≡◌, length}
use Rattle.cip_ranker.proofs.caches.cache_key.are_same.Given as goal

abbrev pub invariant-loop-rest : goal.invariant-loop-rest
invariant-loop-rest l = l.rest ≡ l.more → l.ligands ≡ l.others

abbrev pub decreases-loop-rest : goal.decreases-loop-rest
decreases-loop-rest l = length l.rest
