use Rattle.std.proofs.Common.{true}
use Rattle.cip_rules.proofs.lemmas.DescriptorKeys.{taken_by_descriptors, taken_by_none}
use Rattle.cip_rules.proofs.configuration.apply_descriptor_rule.Goals as goal

pub returns-else-any_descriptor_counts-clause-taken : goal.returns-else-any_descriptor_counts-clause-taken
returns-else-any_descriptor_counts-clause-taken g c =
    taken_by_none (g.M.DescriptorMap.descriptors c.args.descriptors.now) c.args.branches.now c.args.pairs.now c.record_decisions.new.pairs true
    c.args.rule c.requires.followed (c.any_descriptor_counts.ensures.none c.if-any_descriptor_counts.false) c.record_decisions.ensures

pub returns-then-any_descriptor_counts-clause-taken : goal.returns-then-any_descriptor_counts-clause-taken
returns-then-any_descriptor_counts-clause-taken g c =
    taken_by_descriptors (g.M.DescriptorMap.descriptors c.args.descriptors.now) c.args.branches.now c.args.pairs.now c.apply_rule.new.pairs true
    c.args.rule c.apply_rule.new.branches c.apply_rule.ensures.taken

pub apply_rule-requires-clause-keyed : goal.apply_rule-requires-clause-keyed
apply_rule-requires-clause-keyed g c = c.requires.keyed

pub any_descriptor_counts-requires-clause-keyed : goal.any_descriptor_counts-requires-clause-keyed
any_descriptor_counts-requires-clause-keyed g c = c.requires.keyed

pub apply_rule-requires-clause-followed : goal.apply_rule-requires-clause-followed
apply_rule-requires-clause-followed g c = c.requires.followed

pub returns-then-any_descriptor_counts-clause-place_tree : goal.returns-then-any_descriptor_counts-clause-place_tree
returns-then-any_descriptor_counts-clause-place_tree g c = c.apply_rule.ensures.place_tree

pub returns-then-any_descriptor_counts-clause-all : goal.returns-then-any_descriptor_counts-clause-all
returns-then-any_descriptor_counts-clause-all g c = c.apply_rule.ensures.all

pub returns-then-any_descriptor_counts-clause-unresolved : goal.returns-then-any_descriptor_counts-clause-unresolved
returns-then-any_descriptor_counts-clause-unresolved g c = c.apply_rule.ensures.unresolved

pub returns-then-any_descriptor_counts-clause-followed : goal.returns-then-any_descriptor_counts-clause-followed
returns-then-any_descriptor_counts-clause-followed g c = c.apply_rule.ensures.followed
