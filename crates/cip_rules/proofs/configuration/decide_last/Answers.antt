use Rattle.std.proofs.Common.{◌∙◌, false, true, ap, arith}
use Rattle.cip_mol.specs.declared.labels.outcome.Rule.TheVariants.{R5}
use Rattle.cip_rules.specs.Rule4bWorkspace.{Readied}
use Rattle.cip_rules.proofs.lemmas.DescriptorKeys.{taken_by_descriptors, taken_by_none, uncounted_turned}
use Rattle.cip_rules.proofs.lemmas.TakenSteps.{same_branches, same_still}
use Rattle.cip_rules.proofs.configuration.decide_last.Goals as goal

pub returns-else-any_descriptor_counts-clause-decided : goal.returns-else-any_descriptor_counts-clause-decided
returns-else-any_descriptor_counts-clause-decided g c = record {
  now = c.args.branches.now;
  takes = taken_by_none (g.M.DescriptorMap.descriptors c.args.descriptors.now) c.args.branches.now c.args.pairs.now c.record_decisions.new.pairs true R5
      c.requires.followed (c.any_descriptor_counts.ensures.none c.if-any_descriptor_counts.false) c.record_decisions.ensures;
}

pub returns-else-any_descriptor_counts-clause-turned : goal.returns-else-any_descriptor_counts-clause-turned
returns-else-any_descriptor_counts-clause-turned g c =
    let descriptors = g.M.DescriptorMap.descriptors c.args.descriptors.now in
    let begin = c.args.branches.now in
    record {
      now = begin;
      takes = taken_by_none descriptors begin c.args.pairs.now c.copy_from_slice.new.self false R5 c.requires.followed
          (uncounted_turned descriptors begin (c.any_descriptor_counts.ensures.none c.if-any_descriptor_counts.false))
          (c.copy_from_slice.ensures.after ∙ c.record_decisions.ensures);
    }

pub returns-then-any_descriptor_counts-clause-decided : goal.returns-then-any_descriptor_counts-clause-decided
returns-then-any_descriptor_counts-clause-decided g c = record {
  now = c.apply_rule_5_both_ways.ensures.decided.now;
  takes = taken_by_descriptors (g.M.DescriptorMap.descriptors c.args.descriptors.now) c.args.branches.now c.args.pairs.now
      c.apply_rule_5_both_ways.new.pairs true R5 c.apply_rule_5_both_ways.ensures.decided.now c.apply_rule_5_both_ways.ensures.decided.takes;
}

pub returns-then-any_descriptor_counts-clause-turned : goal.returns-then-any_descriptor_counts-clause-turned
returns-then-any_descriptor_counts-clause-turned g c = record {
  now = c.apply_rule_5_both_ways.new.branches;
  takes = taken_by_descriptors (g.M.DescriptorMap.descriptors c.args.descriptors.now) c.args.branches.now c.args.pairs.now
      c.apply_rule_5_both_ways.new.turned false R5 c.apply_rule_5_both_ways.new.branches c.apply_rule_5_both_ways.ensures.turned;
}

pub returns-else-any_descriptor_counts-clause-same : goal.returns-else-any_descriptor_counts-clause-same
returns-else-any_descriptor_counts-clause-same g c = same_still c.args.branches.now

pub returns-then-any_descriptor_counts-clause-same : goal.returns-then-any_descriptor_counts-clause-same
returns-then-any_descriptor_counts-clause-same g c =
    same_branches c.args.branches.now _ R5 c.args.pairs.now c.apply_rule_5_both_ways.new.branches c.apply_rule_5_both_ways.new.turned
    c.apply_rule_5_both_ways.ensures.turned

pub apply_rule_5_both_ways-requires-clause-followed : goal.apply_rule_5_both_ways-requires-clause-followed
apply_rule_5_both_ways-requires-clause-followed g c = c.requires.followed

pub apply_rule_5_both_ways-requires-clause-keyed : goal.apply_rule_5_both_ways-requires-clause-keyed
apply_rule_5_both_ways-requires-clause-keyed g c = c.requires.keyed

pub apply_rule_5_both_ways-requires-clause-turned_keyed : goal.apply_rule_5_both_ways-requires-clause-turned_keyed
apply_rule_5_both_ways-requires-clause-turned_keyed g c = c.requires.keyed

pub apply_rule_5_both_ways-requires-clause-room : goal.apply_rule_5_both_ways-requires-clause-room
apply_rule_5_both_ways-requires-clause-room g c =
    let bound = ap (λ (r : Readied). r.bound) c.readings.view_is in
    let room = c.requires.room in
    let saved = c.readings.invariant.saved_room in
    omega (arith, bound, room, saved)

pub apply_rule_5_both_ways-requires-clause-len : goal.apply_rule_5_both_ways-requires-clause-len
apply_rule_5_both_ways-requires-clause-len g c = c.requires.len

pub invariant_of-readings : goal.invariant_of-readings
invariant_of-readings g c = record {
  few = c.readings.invariant.few;
  twins_room = c.readings.invariant.twins_room;
  saved_room = c.apply_rule_5_both_ways.ensures.room ∙ c.readings.invariant.saved_room;
  sides_room = c.readings.invariant.sides_room;
  values_room = c.readings.invariant.values_room;
}

pub returns-then-any_descriptor_counts-clause-place_tree : goal.returns-then-any_descriptor_counts-clause-place_tree
returns-then-any_descriptor_counts-clause-place_tree g c = c.apply_rule_5_both_ways.ensures.place_tree

pub returns-then-any_descriptor_counts-clause-bound : goal.returns-then-any_descriptor_counts-clause-bound
returns-then-any_descriptor_counts-clause-bound g c = ap (λ (r : Readied). r.bound) c.readings.view_is

pub any_descriptor_counts-requires-clause-keyed : goal.any_descriptor_counts-requires-clause-keyed
any_descriptor_counts-requires-clause-keyed g c = c.requires.keyed
