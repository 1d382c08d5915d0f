use Rattle.std.proofs.Common.{true, [], ◌∷◌, refl, sym, ◌∙◌, subst, length}
use Rattle.cip_mol.specs.declared.labels.outcome.Rule.TheVariants.{R3, R4a, R4b}
use Rattle.cip_rules.proofs.lemmas.ConfigurationDecided.{decides_one, decides_more, decides_early}
use Rattle.cip_rules.proofs.lemmas.TakenSteps.{fewer_still, same_described, same_then}
use Rattle.cip_partition.specs.Keys.{AreKeyed}
use Rattle.cip_rules.proofs.configuration.decide_before_readings.Goals as goal

pub returns-then-apply_descriptor_rule-clause-decided : goal.returns-then-apply_descriptor_rule-clause-decided
returns-then-apply_descriptor_rule-clause-decided g c =
    let descriptors = g.M.DescriptorMap.descriptors c.args.descriptors.now in
    let old = c.args.branches.now in
    let now = c.apply_descriptor_rule.new.branches in
    let pairs = c.args.pairs.now in
    let new = c.apply_descriptor_rule.new.pairs in
    decides_early descriptors R3 R4a R4b (R4a ∷ []) refl old now pairs new
    (decides_one descriptors R3 R4a refl refl (λ seen. refl) (λ seen node. refl) old now pairs new c.apply_descriptor_rule.ensures.taken)
    (sym c.apply_descriptor_rule.ensures.all ∙ c.if-apply_descriptor_rule.true)

pub returns-else-apply_descriptor_rule-clause-decided : goal.returns-else-apply_descriptor_rule-clause-decided
returns-else-apply_descriptor_rule-clause-decided g c =
    let descriptors = g.M.DescriptorMap.descriptors c.args.descriptors.now in
    let old = c.args.branches.now in
    let mid = c.apply_descriptor_rule.new.branches in
    let now = c.apply_descriptor_rule-else-apply_descriptor_rule.new.branches in
    let pairs = c.args.pairs.now in
    let half = c.apply_descriptor_rule.new.pairs in
    let new = c.apply_descriptor_rule-else-apply_descriptor_rule.new.pairs in
    decides_more descriptors R3 R4a R4b old mid now pairs half new
    (decides_one descriptors R3 R4a refl refl (λ seen. refl) (λ seen node. refl) old mid pairs half
    c.apply_descriptor_rule.ensures.taken)
    (sym c.apply_descriptor_rule.ensures.all ∙ c.if-apply_descriptor_rule.false) c.apply_descriptor_rule.ensures.place_tree c.apply_descriptor_rule.ensures.unresolved
    (decides_one descriptors R4a R4b refl refl (λ seen. refl) (λ seen node. refl) mid now half new
    c.apply_descriptor_rule-else-apply_descriptor_rule.ensures.taken)

pub returns-else-apply_descriptor_rule-clause-unresolved : goal.returns-else-apply_descriptor_rule-clause-unresolved
returns-else-apply_descriptor_rule-clause-unresolved g c = fewer_still c.args.branches.now c.apply_descriptor_rule.new.branches c.apply_descriptor_rule-else-apply_descriptor_rule.new.branches
    c.apply_descriptor_rule.ensures.unresolved c.apply_descriptor_rule-else-apply_descriptor_rule.ensures.unresolved

pub returns-then-apply_descriptor_rule-clause-same : goal.returns-then-apply_descriptor_rule-clause-same
returns-then-apply_descriptor_rule-clause-same g c =
    same_described (g.M.DescriptorMap.descriptors c.args.descriptors.now) true R3 c.args.branches.now c.args.pairs.now
    c.apply_descriptor_rule.new.branches c.apply_descriptor_rule.new.pairs c.apply_descriptor_rule.ensures.taken

pub returns-else-apply_descriptor_rule-clause-same : goal.returns-else-apply_descriptor_rule-clause-same
returns-else-apply_descriptor_rule-clause-same g c =
    let descriptors = g.M.DescriptorMap.descriptors c.args.descriptors.now in
    let mid = c.apply_descriptor_rule.new.branches in
    let now = c.apply_descriptor_rule-else-apply_descriptor_rule.new.branches in
    same_then c.args.branches.now mid now
    (same_described descriptors true R3 c.args.branches.now c.args.pairs.now mid c.apply_descriptor_rule.new.pairs
    c.apply_descriptor_rule.ensures.taken)
    (same_described descriptors true R4a mid c.apply_descriptor_rule.new.pairs now c.apply_descriptor_rule-else-apply_descriptor_rule.new.pairs c.apply_descriptor_rule-else-apply_descriptor_rule.ensures.taken)

pub apply_descriptor_rule-requires-else-apply_descriptor_rule-clause-keyed : goal.apply_descriptor_rule-requires-else-apply_descriptor_rule-clause-keyed
apply_descriptor_rule-requires-else-apply_descriptor_rule-clause-keyed g c =
    subst (AreKeyed (length (g.M.DescriptorMap.descriptors c.args.descriptors.now))) (sym c.apply_descriptor_rule.ensures.place_tree) c.requires.keyed

pub apply_descriptor_rule-requires-clause-keyed : goal.apply_descriptor_rule-requires-clause-keyed
apply_descriptor_rule-requires-clause-keyed g c = c.requires.keyed

pub returns-then-apply_descriptor_rule-clause-place_tree : goal.returns-then-apply_descriptor_rule-clause-place_tree
returns-then-apply_descriptor_rule-clause-place_tree g c = c.apply_descriptor_rule.ensures.place_tree

pub returns-then-apply_descriptor_rule-clause-followed : goal.returns-then-apply_descriptor_rule-clause-followed
returns-then-apply_descriptor_rule-clause-followed g c = c.apply_descriptor_rule.ensures.followed

pub returns-then-apply_descriptor_rule-clause-unresolved : goal.returns-then-apply_descriptor_rule-clause-unresolved
returns-then-apply_descriptor_rule-clause-unresolved g c = c.apply_descriptor_rule.ensures.unresolved
