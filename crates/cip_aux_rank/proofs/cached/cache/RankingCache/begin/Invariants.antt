use Rattle.std.proofs.Common.{length}
use Rattle.cip_aux_rank.proofs.cached.cache.RankingCache.begin.Given as goal

abbrev pub decreases-loop : goal.decreases-loop
decreases-loop l = length l.self
