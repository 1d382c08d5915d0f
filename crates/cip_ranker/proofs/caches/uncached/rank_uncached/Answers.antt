use Rattle.std.proofs.Common.{◌∙◌, List, sym, ap, subst}
use Rattle.std.specs.Prelude.{IfOk}
use Rattle.cip_constitution.specs.Settling.{SettledAs}
use Rattle.cip_label.specs.BranchComparison.{RankedAs}
use Rattle.cip_label.specs.declared.root_ranker.Ranking.TheVariants.{Known, Over, Tied}
use Rattle.cip_digraph.specs.declared.decisions.branch_pair.BranchPair.{BranchPair}
use Rattle.cip_ranker.specs.Desks.{settled_by}
use Rattle.cip_ranker.specs.Keeping.{StandsAnyway, kept_of, ranking_in}
use Rattle.cip_ranker.specs.Rooting.{HasRoom}
use Rattle.cip_ranker.specs.Standing.{Standing, both_as, standing_of}
use Rattle.cip_ranker.proofs.lemmas.Anyway.{ordered_anyway, over_anyway, tied_anyway}
use Rattle.cip_ranker.proofs.lemmas.SettledRoots.{over_ranked, tied_ranked}
use Rattle.cip_ranker.proofs.caches.uncached.rank_uncached.Goals as goal

pub settle_root-settled-requires-clause-fit : goal.settle_root-settled-requires-clause-fit
settle_root-settled-requires-clause-fit g c = c.requires.fit

pub returns-in-Over-clause-found : goal.returns-in-Over-clause-found
returns-in-Over-clause-found g c =
    let node_data = c.args.query.now in
    let arena = c.settle_root-settled.new.arena in
    over_anyway node_data.setting.now node_data.root node_data.ligands.now arena c.settle_root-settled.ensures.rooted node_data.proper
    c.args.workspace.now.tables.aside.noted.items
    (subst (SettledAs (settled_by node_data.setting.now node_data.ligands.now) arena) c.in-Over.is
    c.settle_root-settled.ensures.settled)

pub returns-in-Over-clause-ranking : goal.returns-in-Over-clause-ranking
returns-in-Over-clause-ranking g c =
    let node_data = c.args.query.now in
    let arena = c.settle_root-settled.new.arena in
    subst (λ bound. RankedAs node_data.setting.now bound node_data.root node_data.ligands.now (standing_of c.args.branches.now) Over)
    (c.settle_root-settled.ensures.bound ∙ c.requires.room.arena)
    (over_ranked node_data.setting.now node_data.ligands.now node_data.root arena c.settle_root-settled.ensures.rooted.holds
    c.settle_root-settled.ensures.rooted.at (standing_of c.args.branches.now)
    (subst (SettledAs (settled_by node_data.setting.now node_data.ligands.now) arena) c.in-Over.is
    c.settle_root-settled.ensures.settled))

pub returns-in-Tied-clause-found : goal.returns-in-Tied-clause-found
returns-in-Tied-clause-found g c =
    let node_data = c.args.query.now in
    let arena = c.settle_root-settled.new.arena in
    tied_anyway node_data.setting.now node_data.root node_data.ligands.now arena c.settle_root-settled.ensures.rooted node_data.proper
    c.args.workspace.now.tables.aside.noted.items
    (subst (SettledAs (settled_by node_data.setting.now node_data.ligands.now) arena) c.in-Tied.is
    c.settle_root-settled.ensures.settled)

pub returns-in-Tied-clause-ranking : goal.returns-in-Tied-clause-ranking
returns-in-Tied-clause-ranking g c =
    let node_data = c.args.query.now in
    let arena = c.settle_root-settled.new.arena in
    subst (λ bound. RankedAs node_data.setting.now bound node_data.root node_data.ligands.now (standing_of c.args.branches.now) Tied)
    (c.settle_root-settled.ensures.bound ∙ c.requires.room.arena)
    (tied_ranked node_data.setting.now node_data.ligands.now node_data.root arena c.settle_root-settled.ensures.rooted.holds
    c.settle_root-settled.ensures.rooted.at (standing_of c.args.branches.now) node_data.proper.sound
    c.settle_root-settled.ensures.rooted.fit
    (subst (SettledAs (settled_by node_data.setting.now node_data.ligands.now) arena) c.in-Tied.is
    c.settle_root-settled.ensures.settled) c.settle_root-settled.ensures.rooted.fits)

pub returns-in-Ok-clause-found : goal.returns-in-Ok-clause-found
returns-in-Ok-clause-found g c =
    let node_data = c.args.query.now in
    let arena = c.settle_root-settled.new.arena in
    let work = c.settle_root-settled.new.work in
    subst (λ (noted : List BranchPair). StandsAnyway (kept_of node_data.setting.now node_data.root node_data.ligands.now) arena.bound noted Known)
    (sym c.in-Ok.ensures.kept)
    (ordered_anyway node_data.setting.now node_data.root node_data.ligands.now arena c.settle_root-settled.ensures.rooted node_data.proper
    (subst (SettledAs (settled_by node_data.setting.now node_data.ligands.now) arena) c.in-Ordered.is
    c.settle_root-settled.ensures.settled) work.pairs work.noted
    c.settle_root-settled.ensures.pairs (c.settle_root-settled.ensures.noted c.in-Ordered.is))

pub returns-in-Ok-clause-ranking : goal.returns-in-Ok-clause-ranking
returns-in-Ok-clause-ranking g c =
    let node_data = c.args.query.now in
    let arena = c.settle_root-settled.new.arena in
    let anyway = returns-in-Ok-clause-found g c in
    let noted = c.in-Ok.ensures in
    subst (λ bound. RankedAs node_data.setting.now bound node_data.root node_data.ligands.now
    (standing_of c.store_decisions.new.branches) Known) (c.settle_root-settled.ensures.bound ∙ c.requires.room.arena)
    (subst (λ (s : Standing). RankedAs node_data.setting.now arena.bound node_data.root node_data.ligands.now (standing_of s) Known)
    (ap both_as noted.kept ∙ sym noted.standing) (anyway.each node_data.setting.now.units node_data.proper.sites))

pub rank_whole_digraph-requires-clause-followed : goal.rank_whole_digraph-requires-clause-followed
rank_whole_digraph-requires-clause-followed g c = c.settle_root-settled.ensures.followed c.in-Whole.is

pub rank_whole_digraph-requires-clause-settled : goal.rank_whole_digraph-requires-clause-settled
rank_whole_digraph-requires-clause-settled g c =
    let node_data = c.args.query.now in
    let arena = c.settle_root-settled.new.arena in
    (subst (SettledAs (settled_by node_data.setting.now node_data.ligands.now) arena) c.in-Whole.is
    c.settle_root-settled.ensures.settled)

pub rank_whole_digraph-requires-clause-rooted : goal.rank_whole_digraph-requires-clause-rooted
rank_whole_digraph-requires-clause-rooted g c = c.settle_root-settled.ensures.rooted

pub rank_whole_digraph-requires-clause-room : goal.rank_whole_digraph-requires-clause-room
rank_whole_digraph-requires-clause-room g c =
    subst (λ bound. HasRoom bound c.args.workspace.now.tables) (sym (c.settle_root-settled.ensures.bound ∙ c.requires.room.arena)) c.requires.room.tables

pub returns-in-Whole-clause-found : goal.returns-in-Whole-clause-found
returns-in-Whole-clause-found g c = c.rank_whole_digraph.ensures.found

pub returns-in-Whole-clause-ranking : goal.returns-in-Whole-clause-ranking
returns-in-Whole-clause-ranking g c =
    let node_data = c.args.query.now in
    subst (λ bound. IfOk c.rank_whole_digraph.result (λ found. RankedAs node_data.setting.now bound node_data.root node_data.ligands.now
    (standing_of c.rank_whole_digraph.new.branches) (ranking_in found))) (c.settle_root-settled.ensures.bound ∙ c.requires.room.arena) c.rank_whole_digraph.ensures.ranking
