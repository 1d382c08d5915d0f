use Rattle.std.proofs.Common.{List, length, ◌∙◌, sym, ap, subst}
use Rattle.cip_mol.specs.declared.labels.outcome.Rule.TheVariants.{R5}
use Rattle.cip_branches.specs.Deciding.{Branched, AreFollowed}
use Rattle.cip_partition.specs.PlaceTree.{PlaceTree}
use Rattle.cip_partition.specs.Keys.{AreKeyed}
use Rattle.cip_branches.specs.Saving.{Checkpoint, restored}
use Rattle.cip_digraph.specs.declared.decisions.branch_pair.BranchPair.{BranchPair}
use Rattle.cip_rules.specs.Taking.{TakesRule}
use Rattle.cip_rules.proofs.lemmas.TakenSteps.{same_branches, stands_back}
use Rattle.cip_rules.proofs.rule_5.apply_rule_5_both_ways.Goals as goal

pub restore-requires-clause-rows : goal.restore-requires-clause-rows
restore-requires-clause-rows g c =
    let same = same_branches c.args.branches.now (g.K.Keyed.key c.args.keys.now) R5 c.args.pairs.now
    c.apply_rule.new.branches c.apply_rule.new.pairs c.apply_rule.ensures.taken in
    ap (λ (s : Checkpoint). length s.rows) c.save.ensures.saved ∙ sym same.kept.places.len

pub restore-requires-clause-numbers : goal.restore-requires-clause-numbers
restore-requires-clause-numbers g c =
    let same = same_branches c.args.branches.now (g.K.Keyed.key c.args.keys.now) R5 c.args.pairs.now
    c.apply_rule.new.branches c.apply_rule.new.pairs c.apply_rule.ensures.taken in
    ap (λ (s : Checkpoint). length s.numbers) c.save.ensures.saved ∙ c.save.ensures.count
    ∙ sym (ap (λ (k : PlaceTree). length k.place_parents) same.kept.place_tree)

pub restore-requires-clause-unresolved : goal.restore-requires-clause-unresolved
restore-requires-clause-unresolved g c =
    let same = same_branches c.args.branches.now (g.K.Keyed.key c.args.keys.now) R5 c.args.pairs.now
    c.apply_rule.new.branches c.apply_rule.new.pairs c.apply_rule.ensures.taken in
    ap (λ (s : Checkpoint). length s.unresolved) c.save.ensures.saved ∙ sym same.count

pub apply_rule-requires-2-clause-followed : goal.apply_rule-requires-2-clause-followed
apply_rule-requires-2-clause-followed g c =
    let begin = c.args.branches.now in
    let same = same_branches begin (g.K.Keyed.key c.args.keys.now) R5 c.args.pairs.now c.apply_rule.new.branches
    c.apply_rule.new.pairs c.apply_rule.ensures.taken in
    let back = c.restore.ensures ∙ ap (λ (s : Checkpoint). restored s c.apply_rule.new.branches) c.save.ensures.saved
    ∙ stands_back begin c.apply_rule.new.branches c.args.saved.now.room c.requires.followed same in
    subst AreFollowed (sym back) c.requires.followed

pub apply_rule-requires-2-clause-keyed : goal.apply_rule-requires-2-clause-keyed
apply_rule-requires-2-clause-keyed g c =
    let begin = c.args.branches.now in
    let same = same_branches begin (g.K.Keyed.key c.args.keys.now) R5 c.args.pairs.now c.apply_rule.new.branches
    c.apply_rule.new.pairs c.apply_rule.ensures.taken in
    let back = c.restore.ensures ∙ ap (λ (s : Checkpoint). restored s c.apply_rule.new.branches) c.save.ensures.saved
    ∙ stands_back begin c.apply_rule.new.branches c.args.saved.now.room c.requires.followed same in
    subst (λ (b : Branched). AreKeyed (g.T.Keyed.nodes c.args.turned_keys.now) b.layers.place_tree) (sym back)
    c.requires.turned_keyed

pub returns-clause-turned : goal.returns-clause-turned
returns-clause-turned g c =
    let begin = c.args.branches.now in
    let same = same_branches begin (g.K.Keyed.key c.args.keys.now) R5 c.args.pairs.now c.apply_rule.new.branches
    c.apply_rule.new.pairs c.apply_rule.ensures.taken in
    let back = c.restore.ensures ∙ ap (λ (s : Checkpoint). restored s c.apply_rule.new.branches) c.save.ensures.saved
    ∙ stands_back begin c.apply_rule.new.branches c.args.saved.now.room c.requires.followed same in
    subst (λ (b : Branched). TakesRule b (g.T.Keyed.key c.args.turned_keys.now) R5 c.args.pairs.now
    c.apply_rule-2.new.branches c.apply_rule-2.new.pairs) back
    (subst (λ (pairs : List BranchPair). TakesRule c.restore.new.self (g.T.Keyed.key c.args.turned_keys.now) R5 pairs
    c.apply_rule-2.new.branches c.apply_rule-2.new.pairs) c.copy_from_slice.ensures.after c.apply_rule-2.ensures.taken)

pub returns-clause-decided : goal.returns-clause-decided
returns-clause-decided g c = record { now = c.apply_rule.new.branches; takes = c.apply_rule.ensures.taken }

pub returns-clause-followed : goal.returns-clause-followed
returns-clause-followed g c = c.apply_rule-2.ensures.followed

pub returns-clause-place_tree : goal.returns-clause-place_tree
returns-clause-place_tree g c =
    c.apply_rule-2.ensures.place_tree ∙ ap (λ (b : Branched). b.layers.place_tree) c.restore.ensures ∙ c.apply_rule.ensures.place_tree

pub returns-clause-room : goal.returns-clause-room
returns-clause-room g c = ap (λ (s : Checkpoint). s.room) c.save.ensures.saved

pub apply_rule-requires-clause-keyed : goal.apply_rule-requires-clause-keyed
apply_rule-requires-clause-keyed g c = c.requires.keyed

pub apply_rule-requires-clause-followed : goal.apply_rule-requires-clause-followed
apply_rule-requires-clause-followed g c = c.requires.followed
