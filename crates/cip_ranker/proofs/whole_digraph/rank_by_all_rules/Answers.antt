use Rattle.std.proofs.Common.{ℕ, sym, subst}
use Rattle.cip_label.specs.Fitting.{IsFit}
use Rattle.cip_label.specs.BranchComparison.{RankedAs}
use Rattle.cip_label.specs.declared.root_ranker.Ranking.TheVariants.{Known}
use Rattle.cip_ranker.specs.Standing.{standing_of}
use Rattle.cip_ranker.proofs.lemmas.KnownRoots.{late_ranked, on_ok}
use Rattle.cip_partition.specs.Keys.{AreKeyed}
use Rattle.cip_ranker.proofs.whole_digraph.rank_by_all_rules.Goals as goal

pub returns-clause-ranked : goal.returns-clause-ranked
returns-clause-ranked c =
    let setting = c.args.rooted.now.setting.now in
    let ligands = c.args.rooted.now.ligands.now in
    let arena = c.args.rooted.now.arena.now in
    let fit = subst (λ (root : ℕ). IsFit setting.graph root ligands) (sym c.requires.rooted.at)
    c.requires.rooted.fit in
    let standing = c.apply_rules_3_to_5.new.self in
    on_ok c.apply_rules_3_to_5.result c.apply_rules_3_to_5.ensures.ordered
    (λ ordered. subst
    (λ (root : ℕ). RankedAs setting arena.bound root ligands (standing_of standing) Known) c.requires.rooted.at
    (late_ranked setting ligands arena c.requires.rooted.holds c.args.rooted.now.proper.sound fit
    c.requires.rooted.fits c.requires.settled c.args.work.now c.requires.pairs c.requires.constituted
    c.requires.undone c.find_descriptors.new.tables.descriptors.descriptors c.in-Ok.ensures.descriptors standing ordered))

pub apply_rules_3_to_5-requires-clause-keyed : goal.apply_rules_3_to_5-requires-clause-keyed
apply_rules_3_to_5-requires-clause-keyed c =
    subst (λ n. AreKeyed n c.args.work.now.branched.layers.place_tree) (sym c.in-Ok.ensures.descriptors.len)
    c.requires.constituted.keyed

pub returns-clause-pairs : goal.returns-clause-pairs
returns-clause-pairs c = c.apply_rules_3_to_5.ensures.pairs

pub returns-clause-work : goal.returns-clause-work
returns-clause-work c = c.apply_rules_3_to_5.ensures.work

pub returns-clause-same : goal.returns-clause-same
returns-clause-same c = c.apply_rules_3_to_5.ensures.same

pub returns-clause-len : goal.returns-clause-len
returns-clause-len c = c.apply_rules_3_to_5.ensures.len

pub returns-clause-aside : goal.returns-clause-aside
returns-clause-aside c = c.find_descriptors.ensures.aside

pub returns-clause-parities : goal.returns-clause-parities
returns-clause-parities c = c.find_descriptors.ensures.parities
