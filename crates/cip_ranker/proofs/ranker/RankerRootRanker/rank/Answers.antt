use Rattle.std.proofs.Common.{◌∷◌, [], ap, subst}
use Rattle.std.specs.Prelude.{IfOk}
use Rattle.cip_digraph.specs.units.Ends.{end_at}
use Rattle.cip_label.specs.BranchComparison.{RankedAs}
use Rattle.cip_label.specs.Steps.{Rises}
use Rattle.cip_ranker.specs.Desks.{Held}
use Rattle.cip_ranker.specs.Standing.{standing_of}
use Rattle.cip_ranker.proofs.ranker.RankerRootRanker.rank.Goals as goal

pub rank_by_digraph-ranking-requires-clause-fit : goal.rank_by_digraph-ranking-requires-clause-fit
rank_by_digraph-ranking-requires-clause-fit g c = c.requires.fit

pub returns-in-Ok-true-clause-kept : goal.returns-in-Ok-true-clause-kept
returns-in-Ok-true-clause-kept g c = ap (λ (held : Held). held.bound) c.self.view_is

pub returns-in-Ok-false-clause-kept : goal.returns-in-Ok-false-clause-kept
returns-in-Ok-false-clause-kept g c = ap (λ (held : Held). held.bound) c.self.view_is

pub returns-in-Ok-false-clause-ranking : goal.returns-in-Ok-false-clause-ranking
returns-in-Ok-false-clause-ranking g c =
    subst (λ (held : Held). IfOk c.rank_by_digraph-ranking.result (RankedAs c.args.setting.now held.bound c.args.root
    c.args.ligands.now (standing_of c.rank_by_digraph-ranking.new.branches))) c.self.view_is
    c.rank_by_digraph-ranking.ensures.ranking

pub returns-in-Ok-false-clause-cost : goal.returns-in-Ok-false-clause-cost
returns-in-Ok-false-clause-cost g c =
    subst (λ (held : Held). Rises c.args.setting.now held.bound (end_at c.args.root c.args.ligands.now ∷ [])
    c.args.steps.now c.rank_by_digraph-ranking.new.steps) c.self.view_is c.rank_by_digraph-ranking.ensures.cost
