-- For how many nodes there is room, and the rankings that are kept. Own.
use Rattle.std.specs.Prelude.{ℕ, List}
use Rattle.cip_aux_rank.specs.RankingCache.{LigandQuery}

pub record Room : Type 0 where
  pub bound : ℕ
  pub looks : List LigandQuery
