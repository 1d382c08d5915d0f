use Rattle.std.proofs.Common.{List, sym, ap, ◌∙◌, subst}
use Rattle.cip_constitution.specs.FollowedOut.{AreConstituted}
use Rattle.cip_constitution.specs.declared.pairs.VertexPair.{VertexPair}
use Rattle.cip_rank.specs.declared.rules.Rules.{Rules}
use Rattle.cip_label.specs.BranchComparison.{RankedAs}
use Rattle.cip_label.specs.declared.root_ranker.Ranking.TheVariants.{Known}
use Rattle.cip_digraph.specs.declared.decisions.branch_pair.BranchPair.{BranchPair}
use Rattle.cip_ranker.specs.Keeping.{StandsAnyway, kept_of}
use Rattle.cip_ranker.specs.Standing.{Standing, both_as, standing_of}
use Rattle.cip_ranker.specs.declared.checkpoint.RootCheckpoint.{RootCheckpoint}
use Rattle.cip_ranker.proofs.lemmas.Anyway.{early_anyway, whole_anyway}
use Rattle.cip_ranker.proofs.lemmas.OpenRoots.{opened}
use Rattle.cip_ranker.proofs.whole_digraph.rank_whole_digraph.Goals as goal

pub returns-in-Ok-clause-found : goal.returns-in-Ok-clause-found
returns-in-Ok-clause-found c =
    let setting = c.args.rooted.now.setting.now in
    let root = c.args.rooted.now.root in
    let ligands = c.args.rooted.now.ligands.now in
    let arena = c.args.rooted.now.arena.now in
    let trying = c.apply_rules_1b_2.new.self in
    let constituted = subst (λ (rules : Rules). AreConstituted rules setting.graph setting.positions arena trying.pairs
    trying.branched trying.noted) c.rules.ensures
    (c.apply_rules_1b_2.ensures.constituted setting.graph setting.positions c.requires.followed) in
    let node_data = early_anyway setting root ligands arena c.requires.rooted c.args.rooted.now.proper
    c.requires.settled trying (c.apply_rules_1b_2.ensures.pairs ∙ c.requires.pairs) constituted
    (sym c.apply_rules_1b_2.ensures.all ∙ c.if-apply_rules_1b_2.true) in
    subst (λ (noted : List BranchPair). StandsAnyway (kept_of setting root ligands) arena.bound noted Known)
    (sym c.in-Ok.ensures.kept) node_data

pub returns-in-Ok-clause-ranking : goal.returns-in-Ok-clause-ranking
returns-in-Ok-clause-ranking c =
    let rooted = c.args.rooted.now in
    let node_data = returns-in-Ok-clause-found c in
    let noted = c.in-Ok.ensures in
    subst (λ (s : Standing). RankedAs rooted.setting.now rooted.arena.now.bound rooted.root rooted.ligands.now
    (standing_of s) Known) (ap both_as noted.kept ∙ sym noted.standing) (node_data.each rooted.setting.now.units
    rooted.proper.sites)

pub returns-in-Ok-rank_by_all_rules-clause-found : goal.returns-in-Ok-rank_by_all_rules-clause-found
returns-in-Ok-rank_by_all_rules-clause-found c =
    let setting = c.args.rooted.now.setting.now in
    let root = c.args.rooted.now.root in
    let ligands = c.args.rooted.now.ligands.now in
    let arena = c.args.rooted.now.arena.now in
    let trying = c.apply_rules_1b_2.new.self in
    let kept = kept_of setting root ligands in
    let are = c.apply_rules_1b_2.ensures.pairs ∙ c.requires.pairs in
    let aside = c.rank_by_all_rules.ensures.aside in
    let constituted = subst (λ (rules : Rules). AreConstituted rules setting.graph setting.positions arena trying.pairs
    trying.branched trying.noted) c.rules.ensures
    (c.apply_rules_1b_2.ensures.constituted setting.graph setting.positions c.requires.followed) in
    opened kept arena c.requires.rooted.holds c.requires.rooted.at c.requires.rooted.fits
    (whole_anyway setting root ligands arena c.requires.rooted c.args.rooted.now.proper c.requires.settled)
    trying.branched trying.noted c.rank_by_all_rules.new.work c.rank_by_all_rules.new.tables c.args.tables.now.aside.ranks.room
    (c.in-Ok-rank_by_all_rules.ensures.pairs ∙ are)
    (ap (λ (aside : RootCheckpoint). aside.ranks) aside ∙ c.set_aside.ensures.ranks) c.set_aside.ensures.count
    c.in-Ok-rank_by_all_rules.ensures.same
    (ap (λ (aside : RootCheckpoint). aside.noted.items) aside ∙ c.in-Ok-set_aside.ensures.noted)
    c.in-Ok-rank_by_all_rules.ensures.len
    (subst (λ (pairs : List VertexPair). AreConstituted setting.rules setting.graph setting.positions arena pairs
    trying.branched trying.noted) are constituted)
    (sym c.apply_rules_1b_2.ensures.all ∙ c.if-apply_rules_1b_2.false) c.rank_by_all_rules.ensures.parities

pub set_aside-requires-clause-room : goal.set_aside-requires-clause-room
set_aside-requires-clause-room c = c.requires.room

pub rank_by_all_rules-requires-clause-rooted : goal.rank_by_all_rules-requires-clause-rooted
rank_by_all_rules-requires-clause-rooted c = c.requires.rooted

pub rank_by_all_rules-requires-clause-settled : goal.rank_by_all_rules-requires-clause-settled
rank_by_all_rules-requires-clause-settled c = c.requires.settled

pub rank_by_all_rules-requires-clause-constituted : goal.rank_by_all_rules-requires-clause-constituted
rank_by_all_rules-requires-clause-constituted c =
    let setting = c.args.rooted.now.setting.now in
    let trying = c.apply_rules_1b_2.new.self in
    subst (λ (rules : Rules). AreConstituted rules setting.graph setting.positions c.args.rooted.now.arena.now
    trying.pairs trying.branched trying.noted) c.rules.ensures
    (c.apply_rules_1b_2.ensures.constituted setting.graph setting.positions c.requires.followed)

pub rank_by_all_rules-requires-clause-undone : goal.rank_by_all_rules-requires-clause-undone
rank_by_all_rules-requires-clause-undone c = sym c.apply_rules_1b_2.ensures.all ∙ c.if-apply_rules_1b_2.false

pub rank_by_all_rules-requires-clause-pairs : goal.rank_by_all_rules-requires-clause-pairs
rank_by_all_rules-requires-clause-pairs c = c.apply_rules_1b_2.ensures.pairs ∙ c.requires.pairs

pub rank_by_all_rules-requires-clause-room : goal.rank_by_all_rules-requires-clause-room
rank_by_all_rules-requires-clause-room c = c.set_aside.ensures.room

pub rank_by_all_rules-requires-clause-parities : goal.rank_by_all_rules-requires-clause-parities
rank_by_all_rules-requires-clause-parities c = c.set_aside.ensures.parities

pub returns-in_default-set_aside-clause-room : goal.returns-in_default-set_aside-clause-room
returns-in_default-set_aside-clause-room c = c.set_aside.ensures.room

pub returns-in_default-rank_by_all_rules-clause-room : goal.returns-in_default-rank_by_all_rules-clause-room
returns-in_default-rank_by_all_rules-clause-room c = c.rank_by_all_rules.ensures.room

pub returns-in-Ok-rank_by_all_rules-clause-ranking : goal.returns-in-Ok-rank_by_all_rules-clause-ranking
returns-in-Ok-rank_by_all_rules-clause-ranking c = c.in-Ok-rank_by_all_rules.ensures.ranked

pub returns-in-Ok-rank_by_all_rules-clause-room : goal.returns-in-Ok-rank_by_all_rules-clause-room
returns-in-Ok-rank_by_all_rules-clause-room c = c.rank_by_all_rules.ensures.room
