use Rattle.std.proofs.Common.{true, [], ◌∷◌, refl, sym, ◌∙◌, subst, length, ◌≤◌}
use Rattle.cip_mol.specs.declared.labels.outcome.Rule.TheVariants.{R3, R4b, R4c, R5}
use Rattle.cip_rules.proofs.lemmas.ConfigurationDecided.{decides_by_readings, decides_one, decides_more, decides_early}
use Rattle.cip_rules.proofs.lemmas.TakenSteps.{fewer_still, same_described, same_then}
use Rattle.cip_partition.specs.Keys.{AreKeyed}
use Rattle.cip_partition.specs.PlaceTree.{PlaceTree}
use Rattle.cip_rules.proofs.configuration.decide_before_last.Goals as goal

pub returns-then-decide_before_readings-clause-decided : goal.returns-then-decide_before_readings-clause-decided
returns-then-decide_before_readings-clause-decided g c =
    decides_early (g.M.DescriptorMap.descriptors c.args.descriptors.now) R3 R4b R5 (R4b ∷ R4c ∷ []) refl c.args.branches.now
    c.decide_before_readings.new.branches c.args.pairs.now c.decide_before_readings.new.pairs
    c.decide_before_readings.ensures.decided
    (sym c.decide_before_readings.ensures.all ∙ c.if-decide_before_readings.true)

pub returns-then-all_decided-clause-decided : goal.returns-then-all_decided-clause-decided
returns-then-all_decided-clause-decided g c =
    let descriptors = g.M.DescriptorMap.descriptors c.args.descriptors.now in
    let old = c.args.branches.now in
    let mid = c.decide_before_readings.new.branches in
    let pairs = c.args.pairs.now in
    let half = c.decide_before_readings.new.pairs in
    let new = c.apply_rule_4b.new.pairs in
    decides_more descriptors R3 R4b R5 old mid mid pairs half new c.decide_before_readings.ensures.decided
    (sym c.decide_before_readings.ensures.all ∙ c.if-decide_before_readings.false)
    c.decide_before_readings.ensures.place_tree c.decide_before_readings.ensures.unresolved
    (decides_early descriptors R4b R4c R5 (R4c ∷ []) refl mid mid half new
    (decides_by_readings descriptors mid half new c.apply_rule_4b.ensures.found)
    (sym c.all_decided.ensures ∙ c.if-all_decided.true))

pub returns-else-all_decided-clause-decided : goal.returns-else-all_decided-clause-decided
returns-else-all_decided-clause-decided g c =
    let descriptors = g.M.DescriptorMap.descriptors c.args.descriptors.now in
    let old = c.args.branches.now in
    let mid = c.decide_before_readings.new.branches in
    let now = c.apply_descriptor_rule.new.branches in
    let pairs = c.args.pairs.now in
    let half = c.decide_before_readings.new.pairs in
    let read = c.apply_rule_4b.new.pairs in
    let new = c.apply_descriptor_rule.new.pairs in
    decides_more descriptors R3 R4b R5 old mid now pairs half new c.decide_before_readings.ensures.decided
    (sym c.decide_before_readings.ensures.all ∙ c.if-decide_before_readings.false)
    c.decide_before_readings.ensures.place_tree c.decide_before_readings.ensures.unresolved
    (decides_more descriptors R4b R4c R5 mid mid now half read new
    (decides_by_readings descriptors mid half read c.apply_rule_4b.ensures.found)
    (sym c.all_decided.ensures ∙ c.if-all_decided.false) refl
    (record { each = λ t place p. p })
    (decides_one descriptors R4c R5 refl refl (λ seen. refl) (λ seen node. refl) mid now read new
    c.apply_descriptor_rule.ensures.taken))

pub returns-else-all_decided-clause-unresolved : goal.returns-else-all_decided-clause-unresolved
returns-else-all_decided-clause-unresolved g c =
    fewer_still c.args.branches.now c.decide_before_readings.new.branches c.apply_descriptor_rule.new.branches
    c.decide_before_readings.ensures.unresolved c.apply_descriptor_rule.ensures.unresolved

pub returns-then-all_decided-clause-unresolved : goal.returns-then-all_decided-clause-unresolved
returns-then-all_decided-clause-unresolved g c = c.decide_before_readings.ensures.unresolved

pub returns-then-all_decided-clause-same : goal.returns-then-all_decided-clause-same
returns-then-all_decided-clause-same g c = c.decide_before_readings.ensures.same

pub returns-else-all_decided-clause-same : goal.returns-else-all_decided-clause-same
returns-else-all_decided-clause-same g c =
    let mid = c.decide_before_readings.new.branches in
    let now = c.apply_descriptor_rule.new.branches in
    same_then c.args.branches.now mid now c.decide_before_readings.ensures.same
    (same_described (g.M.DescriptorMap.descriptors c.args.descriptors.now) true R4c mid c.apply_rule_4b.new.pairs now c.apply_descriptor_rule.new.pairs
    c.apply_descriptor_rule.ensures.taken)

pub apply_rule_4b-requires-clause-room : goal.apply_rule_4b-requires-clause-room
apply_rule_4b-requires-clause-room g c =
    subst (λ (place_tree : PlaceTree). length place_tree.place_parents ≤ c.args.readings.now.bound) (sym c.decide_before_readings.ensures.place_tree)
    c.requires.room

pub apply_rule_4b-requires-clause-keyed : goal.apply_rule_4b-requires-clause-keyed
apply_rule_4b-requires-clause-keyed g c =
    subst (AreKeyed (length (g.M.DescriptorMap.descriptors c.args.descriptors.now))) (sym c.decide_before_readings.ensures.place_tree)
    c.requires.keyed

pub apply_descriptor_rule-requires-clause-keyed : goal.apply_descriptor_rule-requires-clause-keyed
apply_descriptor_rule-requires-clause-keyed g c =
    subst (AreKeyed (length (g.M.DescriptorMap.descriptors c.args.descriptors.now))) (sym c.decide_before_readings.ensures.place_tree)
    c.requires.keyed

pub apply_descriptor_rule-requires-clause-followed : goal.apply_descriptor_rule-requires-clause-followed
apply_descriptor_rule-requires-clause-followed g c = c.decide_before_readings.ensures.followed

pub decide_before_readings-requires-clause-keyed : goal.decide_before_readings-requires-clause-keyed
decide_before_readings-requires-clause-keyed g c = c.requires.keyed

pub returns-else-all_decided-clause-bound : goal.returns-else-all_decided-clause-bound
returns-else-all_decided-clause-bound g c = c.apply_rule_4b.ensures.bound

pub returns-then-all_decided-clause-bound : goal.returns-then-all_decided-clause-bound
returns-then-all_decided-clause-bound g c = c.apply_rule_4b.ensures.bound

pub returns-else-all_decided-clause-place_tree : goal.returns-else-all_decided-clause-place_tree
returns-else-all_decided-clause-place_tree g c = c.apply_descriptor_rule.ensures.place_tree ∙ c.decide_before_readings.ensures.place_tree

pub returns-then-all_decided-clause-place_tree : goal.returns-then-all_decided-clause-place_tree
returns-then-all_decided-clause-place_tree g c = c.decide_before_readings.ensures.place_tree

pub returns-else-all_decided-clause-followed : goal.returns-else-all_decided-clause-followed
returns-else-all_decided-clause-followed g c = c.apply_descriptor_rule.ensures.followed

pub returns-then-all_decided-clause-followed : goal.returns-then-all_decided-clause-followed
returns-then-all_decided-clause-followed g c = c.decide_before_readings.ensures.followed

pub returns-else-all_decided-clause-all : goal.returns-else-all_decided-clause-all
returns-else-all_decided-clause-all g c = c.apply_descriptor_rule.ensures.all
