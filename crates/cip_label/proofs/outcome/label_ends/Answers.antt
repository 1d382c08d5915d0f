use Rattle.std.proofs.Common.{◌∙◌, ◌∷◌, [], ap, arith}
use Rattle.cip_mol.specs.Ends.{as_site}
use Rattle.cip_digraph.specs.LentEnds.{as_end}
use Rattle.cip_label.specs.Labelling.{of_one}
use Rattle.cip_label.proofs.lemmas.KnownOutcomes.{are_ranked, fit_together, known_by_one, known_by_two}
use Rattle.cip_label.proofs.lemmas.SiteEnds.{few_together, first_fit, one_end, second_fit, two_ends}
use Rattle.cip_label.proofs.lemmas.StepsRise.{both, in_site, one_of_two}
use Rattle.std.proofs.lemmas.Grind.{common_steps}
use Rattle.cip_label.proofs.outcome.label_ends.Goals as goal

pub rank_root-requires-clause-fit : goal.rank_root-requires-clause-fit
rank_root-requires-clause-fit g c =
    first_fit c.args.setting.now.graph (as_site c.args.ends.now) c.requires.fit (as_end c.in-One.end) []
    (one_end _ c.in-One.end c.in-One.is)

pub returns-in-Ok-clause-outcome : goal.returns-in-Ok-clause-outcome
returns-in-Ok-clause-outcome g c =
    c.of_one.ensures
    ∙ ap (of_one (as_site c.args.ends.now) c.args.sense) c.in-Ok.ensures.ranked
    ∙ known_by_one c.args.setting.now (g.D.RootRanker.bound c.args.digraphs.now) (as_site c.args.ends.now) c.args.sense
    (as_end c.in-One.end) (one_end _ c.in-One.end c.in-One.is)

pub returns-in-One-clause-cost : goal.returns-in-One-clause-cost
returns-in-One-clause-cost g c =
    in_site c.args.setting.now (g.D.RootRanker.bound c.args.digraphs.now) (as_site c.args.ends.now)
    (as_end c.in-One.end ∷ []) c.args.steps.now c.rank_root.new.steps (one_end _ c.in-One.end c.in-One.is)
    c.rank_root.ensures.cost

pub returns-in-Ok-clause-cost : goal.returns-in-Ok-clause-cost
returns-in-Ok-clause-cost g c =
    in_site c.args.setting.now (g.D.RootRanker.bound c.args.digraphs.now) (as_site c.args.ends.now)
    (as_end c.in-One.end ∷ []) c.args.steps.now c.rank_root.new.steps (one_end _ c.in-One.end c.in-One.is)
    c.rank_root.ensures.cost

pub rank_root-requires-in-Two-clause-fit : goal.rank_root-requires-in-Two-clause-fit
rank_root-requires-in-Two-clause-fit g c =
    first_fit c.args.setting.now.graph (as_site c.args.ends.now) c.requires.fit (as_end c.in-Two.two.nearer)
    (as_end c.in-Two.two.far ∷ []) (two_ends _ _ c.in-Two.two c.in-Two.is)

pub rank_behind-requires-clause-fit : goal.rank_behind-requires-clause-fit
rank_behind-requires-clause-fit g c =
    second_fit c.args.setting.now.graph (as_site c.args.ends.now) c.requires.fit (as_end c.in-Two.two.nearer)
    (as_end c.in-Two.two.far) [] (two_ends _ _ c.in-Two.two c.in-Two.is)

pub of_two-requires : goal.of_two-requires
of_two-requires g c =
    let bound = g.D.RootRanker.bound c.args.digraphs.now in
    let one = as_end c.in-Two.two.nearer in
    let other = as_end c.in-Two.two.far in
    fit_together c.args.setting.now bound one other c.in-Ok-rank_root.nearer c.in-Ok-rank_behind.far
    (few_together c.args.setting.now.graph (as_site c.args.ends.now) c.requires.fit one other
    (two_ends _ _ c.in-Two.two c.in-Two.is))
    (are_ranked c.args.setting.now bound _ one other c.in-Ok-rank_root.nearer c.in-Ok-rank_behind.far
    c.rank_root-in-Two.ensures.kept c.in-Ok-rank_root.ensures.ranked c.in-Ok-rank_behind.ensures.ranked)

pub returns-in-Ok-rank_behind-clause-outcome : goal.returns-in-Ok-rank_behind-clause-outcome
returns-in-Ok-rank_behind-clause-outcome g c =
    let bound = g.D.RootRanker.bound c.args.digraphs.now in
    let one = as_end c.in-Two.two.nearer in
    let other = as_end c.in-Two.two.far in
    c.of_two.ensures
    ∙ known_by_two c.args.setting.now bound (as_site c.args.ends.now) c.args.sense one other c.in-Ok-rank_root.nearer
    c.in-Ok-rank_behind.far (two_ends _ _ c.in-Two.two c.in-Two.is)
    (are_ranked c.args.setting.now bound _ one other c.in-Ok-rank_root.nearer c.in-Ok-rank_behind.far
    c.rank_root-in-Two.ensures.kept c.in-Ok-rank_root.ensures.ranked c.in-Ok-rank_behind.ensures.ranked)

pub returns-clause-cost : goal.returns-clause-cost
returns-clause-cost g c =
    one_of_two c.args.setting.now (g.D.RootRanker.bound c.args.digraphs.now) (as_site c.args.ends.now)
    (as_end c.in-Two.two.nearer) (as_end c.in-Two.two.far) (two_ends _ _ c.in-Two.two c.in-Two.is)
    c.args.steps.now c.rank_root-in-Two.new.steps c.rank_root-in-Two.ensures.cost

pub returns-in-Ok-rank_root-clause-cost : goal.returns-in-Ok-rank_root-clause-cost
returns-in-Ok-rank_root-clause-cost g c =
    both c.args.setting.now (g.D.RootRanker.bound c.args.digraphs.now) (as_site c.args.ends.now)
    (as_end c.in-Two.two.nearer) (as_end c.in-Two.two.far) (two_ends _ _ c.in-Two.two c.in-Two.is)
    c.args.steps.now c.rank_root-in-Two.new.steps c.rank_behind.new.steps _ c.rank_root-in-Two.ensures.kept
    c.rank_root-in-Two.ensures.cost c.rank_behind.ensures.cost

pub returns-in-Ok-rank_behind-clause-cost : goal.returns-in-Ok-rank_behind-clause-cost
returns-in-Ok-rank_behind-clause-cost g c =
    both c.args.setting.now (g.D.RootRanker.bound c.args.digraphs.now) (as_site c.args.ends.now)
    (as_end c.in-Two.two.nearer) (as_end c.in-Two.two.far) (two_ends _ _ c.in-Two.two c.in-Two.is)
    c.args.steps.now c.rank_root-in-Two.new.steps c.rank_behind.new.steps _ c.rank_root-in-Two.ensures.kept
    c.rank_root-in-Two.ensures.cost c.rank_behind.ensures.cost

pub returns-in-Ok-rank_behind-clause-kept : goal.returns-in-Ok-rank_behind-clause-kept
returns-in-Ok-rank_behind-clause-kept g c = grind (arith, common_steps)
