use Rattle.std.proofs.Common.{◌≡◌, length, sym, ap, ◌∙◌, subst}
use Rattle.cip_mol.specs.declared.labels.outcome.Rule.TheVariants.{R4b}
use Rattle.cip_branches.specs.Deciding.{Branched, AreFollowed}
use Rattle.cip_branches.specs.Saving.{Checkpoint}
use Rattle.cip_branches.specs.Twins.{twins_of}
use Rattle.cip_partition.specs.Keys.{AreKeyed}
use Rattle.cip_partition.specs.PlaceTree.{PlaceTree}
use Rattle.cip_rules.specs.Taking.{TakesRule}
use Rattle.cip_rules.proofs.lemmas.TakenSteps.{same_branches}
use Rattle.cip_rules.proofs.lemmas.TwinsAside.{back_aside, still_aside}
use Rattle.cip_rules.proofs.rule_4b.take_again.Goals as goal
use Rattle.cip_rules.proofs.rule_4b.take_again.Goals.{After-restore, After-apply_rule}

pub restore-requires-clause-rows : goal.restore-requires-clause-rows
restore-requires-clause-rows g c =
    let aside = c.requires.aside.aside in
    ap (λ (s : Checkpoint). length s.rows) aside.saved_are ∙ sym aside.kept.places.len

pub restore-requires-clause-numbers : goal.restore-requires-clause-numbers
restore-requires-clause-numbers g c =
    let aside = c.requires.aside.aside in
    ap (λ (s : Checkpoint). length s.numbers) aside.saved_are ∙ aside.numbers_len
    ∙ sym (ap (λ (k : PlaceTree). length k.place_parents) aside.kept.place_tree)

pub restore-requires-clause-unresolved : goal.restore-requires-clause-unresolved
restore-requires-clause-unresolved g c =
    let aside = c.requires.aside.aside in
    ap (λ (s : Checkpoint). length s.unresolved) aside.saved_are ∙ sym aside.count

-- the copies are as at first
stand_back : (g : _) (c : After-restore g) → c.restore.new.self ≡ twins_of c.args.twins.now.layers.place_tree.room c.args.branches.now
stand_back g c =
    c.restore.ensures ∙ back_aside c.args.branches.now c.args.twins.now c.args.saved.now c.requires.aside

pub apply_rule-requires-clause-followed : goal.apply_rule-requires-clause-followed
apply_rule-requires-clause-followed g c =
    subst AreFollowed (sym (stand_back g (goal.at.apply_rule-requires-clause-followed g c).After-restore))
    c.requires.aside.aside.followed

pub apply_rule-requires-clause-keyed : goal.apply_rule-requires-clause-keyed
apply_rule-requires-clause-keyed g c =
    subst (λ (t : Branched). AreKeyed (g.K.Keyed.nodes c.args.keys.now) t.layers.place_tree) (sym c.restore.ensures)
    c.requires.keyed

pub returns-clause-place_tree : goal.returns-clause-place_tree
returns-clause-place_tree g c = c.apply_rule.ensures.place_tree ∙ ap (λ (t : Branched). t.layers.place_tree) c.restore.ensures

-- and from there the rule was taken
taken_back : (g : _) (c : After-apply_rule g)
    → TakesRule (twins_of c.args.twins.now.layers.place_tree.room c.args.branches.now) (g.K.Keyed.key c.args.keys.now) R4b
    c.args.pairs.now c.apply_rule.new.branches c.apply_rule.new.pairs
taken_back g c =
    subst (λ (t : Branched). TakesRule t (g.K.Keyed.key c.args.keys.now) R4b c.args.pairs.now
    c.apply_rule.new.branches c.apply_rule.new.pairs)
    (c.restore.ensures ∙ back_aside c.args.branches.now c.args.twins.now c.args.saved.now c.requires.aside)
    c.apply_rule.ensures.taken

pub returns-clause-taken : goal.returns-clause-taken
returns-clause-taken g c =
    let place_tree = c.apply_rule.ensures.place_tree ∙ ap (λ (t : Branched). t.layers.place_tree) c.restore.ensures in
    subst (λ r. TakesRule (twins_of r c.args.branches.now) (g.K.Keyed.key c.args.keys.now) R4b c.args.pairs.now
    c.apply_rule.new.branches c.apply_rule.new.pairs) (sym (ap (λ (k : PlaceTree). k.room) place_tree))
    (taken_back g (goal.at.returns-clause-taken g c).After-apply_rule)

pub returns-clause-aside : goal.returns-clause-aside
returns-clause-aside g c =
    let begin = twins_of c.args.twins.now.layers.place_tree.room c.args.branches.now in
    still_aside c.args.branches.now c.args.twins.now c.apply_rule.new.branches c.args.saved.now c.requires.aside
    (c.apply_rule.ensures.place_tree ∙ ap (λ (t : Branched). t.layers.place_tree) c.restore.ensures)
    (same_branches begin (g.K.Keyed.key c.args.keys.now) R4b c.args.pairs.now c.apply_rule.new.branches
    c.apply_rule.new.pairs (taken_back g (goal.at.returns-clause-aside g c).After-apply_rule))
