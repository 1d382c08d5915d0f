use Rattle.std.proofs.Common.{true, false, sym, ◌∙◌, subst, length, ◌≤◌}
use Rattle.cip_rules.proofs.lemmas.ConfigurationDecided.{last_decides, decided_before}
use Rattle.cip_rules.proofs.lemmas.DescriptorPlaces.{descriptors_stay}
use Rattle.cip_partition.specs.Keys.{AreKeyed}
use Rattle.cip_partition.specs.PlaceTree.{PlaceTree}
use Rattle.cip_rules.proofs.lemmas.TakenSteps.{same_still, same_then}
use Rattle.cip_rules.proofs.lemmas.BranchesWithoutDescriptors.{order_without_descriptors}
use Rattle.cip_rules.proofs.configuration.decide_configuration.Goals as goal

pub returns-then-has_no_descriptors-clause-decided : goal.returns-then-has_no_descriptors-clause-decided
returns-then-has_no_descriptors-clause-decided g c seen named node count begin within before known =
    let descriptors = g.M.DescriptorMap.descriptors c.args.descriptors.now in
    let now = c.args.branches.now in
    let pairs = c.args.pairs.now in
    let bare = c.has_no_descriptors.ensures.none c.if-has_no_descriptors.true in (
      order_without_descriptors seen named node count begin within now pairs before descriptors known bare true,
      c.copy_from_slice.ensures.after ∙ order_without_descriptors seen named node count begin within now pairs before descriptors known
          bare false,
    )

pub returns-then-decide_before_last-clause-decided : goal.returns-then-decide_before_last-clause-decided
returns-then-decide_before_last-clause-decided g c seen named node count begin within before known =
    let descriptors = g.M.DescriptorMap.descriptors c.args.descriptors.now in
    let ready = c.decide_before_last.ensures.decided.each seen named node count begin within before known in
    let done = sym c.decide_before_last.ensures.all ∙ c.if-decide_before_last.true in
    let now = c.decide_before_last.new.branches in
    let new = c.decide_before_last.new.pairs in (
      decided_before descriptors seen named node count begin within true now new ready done,
      c.copy_from_slice-then-decide_before_last.ensures.after ∙ decided_before descriptors seen named node count begin within false now new ready done,
    )

pub returns-else-decide_before_last-clause-decided : goal.returns-else-decide_before_last-clause-decided
returns-else-decide_before_last-clause-decided g c seen named node count begin within before known =
    let descriptors = g.M.DescriptorMap.descriptors c.args.descriptors.now in
    let mid = c.decide_before_last.new.branches in
    let half = c.decide_before_last.new.pairs in
    let ready = c.decide_before_last.ensures.decided.each seen named node count begin within before known in
    let stands = ready.stands (sym c.decide_before_last.ensures.all ∙ c.if-decide_before_last.false) in
    let still = descriptors_stay named descriptors seen.descriptor c.args.branches.now mid c.decide_before_last.ensures.place_tree
    c.decide_before_last.ensures.unresolved known in
    let first = c.decide_last.ensures.decided in
    let turned = c.decide_last.ensures.turned in (
      last_decides descriptors seen named node count begin within true mid first.now half c.decide_last.new.pairs stands still
          first.takes,
      last_decides descriptors seen named node count begin within false mid turned.now half c.decide_last.new.turned stands
          still turned.takes,
    )

pub returns-then-has_no_descriptors-clause-same : goal.returns-then-has_no_descriptors-clause-same
returns-then-has_no_descriptors-clause-same g c = same_still c.args.branches.now

pub has_no_descriptors-requires-clause-keyed : goal.has_no_descriptors-requires-clause-keyed
has_no_descriptors-requires-clause-keyed g c = c.requires.keyed

pub returns-else-decide_before_last-clause-same : goal.returns-else-decide_before_last-clause-same
returns-else-decide_before_last-clause-same g c =
    same_then c.args.branches.now c.decide_before_last.new.branches c.decide_last.new.branches
    c.decide_before_last.ensures.same c.decide_last.ensures.same

pub decide_last-requires-clause-room : goal.decide_last-requires-clause-room
decide_last-requires-clause-room g c =
    let before = c.decide_before_last.ensures in
    subst (λ n. length c.decide_before_last.new.branches.layers.place_tree.place_parents ≤ n) (sym before.bound)
    (subst (λ (place_tree : PlaceTree). length place_tree.place_parents ≤ c.args.readings.now.bound) (sym before.place_tree) c.requires.room)

pub decide_last-requires-clause-keyed : goal.decide_last-requires-clause-keyed
decide_last-requires-clause-keyed g c =
    subst (AreKeyed (length (g.M.DescriptorMap.descriptors c.args.descriptors.now))) (sym c.decide_before_last.ensures.place_tree)
    c.requires.keyed

pub decide_before_last-requires-clause-keyed : goal.decide_before_last-requires-clause-keyed
decide_before_last-requires-clause-keyed g c = c.requires.keyed
