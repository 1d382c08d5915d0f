use Rattle.std.proofs.Common.{◌∙◌}
use Rattle.cip_label.proofs.lemmas.RankedOnce.{once_as}
use Rattle.cip_label.proofs.lemmas.UnitOutcomes.{if_ok}
use Rattle.cip_label.proofs.ranked_root.rank_root.Goals as goal

pub returns-in-Ok-Known-clause-ranked : goal.returns-in-Ok-Known-clause-ranked
returns-in-Ok-Known-clause-ranked g c =
    if_ok _ _ c.ranked_by.result
    (λ ranked is. is ∙ once_as c.args.setting.now c.args.root.at c.args.root.ligands.now
    (g.D.RootRanker.standing c.rank.new.self)
    c.graph-graph.ensures.proper.sound c.requires.fit (g.D.RootRanker.bound c.args.digraphs.now) c.in-Ok-Known.field-0
    c.in-Ok-Known.field-0-is
    c.in-Ok-Known.ensures.ranking)
    c.ranked_by.ensures
