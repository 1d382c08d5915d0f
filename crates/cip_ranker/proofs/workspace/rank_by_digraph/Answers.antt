use Rattle.cip_ranker.proofs.workspace.rank_by_digraph.Goals as goal

pub rank_cached-requires-clause-ready : goal.rank_cached-requires-clause-ready
rank_cached-requires-clause-ready g c = c.requires.ready

pub rank_cached-requires-clause-fit : goal.rank_cached-requires-clause-fit
rank_cached-requires-clause-fit g c = c.requires.fit

pub rank_uncached-requires-clause-fit : goal.rank_uncached-requires-clause-fit
rank_uncached-requires-clause-fit g c = c.requires.fit
