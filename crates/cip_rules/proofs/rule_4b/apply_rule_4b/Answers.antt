use Rattle.std.proofs.Common.{◌≡◌, ◌∙◌, true, length, sym, ap, subst, arith, inl, inr}
use Rattle.std.proofs.lemmas.Bool.{cases_lt}
use Rattle.std.specs.List.{AllByRecursion}
use Rattle.cip_mol.specs.declared.labels.outcome.Rule.TheVariants.{R4b}
use Rattle.cip_digraph.specs.rules.Decisions.{difference_by}
use Rattle.cip_branches.specs.Standing.{node_in}
use Rattle.cip_digraph.specs.Asking.{AreWithin, decided}
use Rattle.cip_rules.specs.Orders.{decided_by, decided_in_turn}
use Rattle.cip_rules.proofs.lemmas.FoundWithin.{all_within, same_found}
use Rattle.cip_rules.proofs.lemmas.ReadingsFound.{readings_found, readings_none, none_asked}
use Rattle.cip_rules.proofs.rule_4b.apply_rule_4b.Goals as goal

pub returns-else-any_descriptor_counts-clause-found : goal.returns-else-any_descriptor_counts-clause-found
returns-else-any_descriptor_counts-clause-found g c seen named node count begin rules within before key_or_zero =
    let from = c.args.branches.now in
    let pairs = c.args.pairs.now in
    let all = subst (AllByRecursion (AreWithin (length from.unresolved))) (sym before.noted)
    (all_within (decided_in_turn seen true rules node) (length from.unresolved) begin
    (subst (λ n. AllByRecursion (AreWithin n) begin) (sym before.tops) within)) in
    readings_none seen named from c.requires.followed c.count-places.ensures.may before.stands before.ended before.tall
    (g.M.DescriptorMap.descriptors c.args.descriptors.now) key_or_zero (c.any_descriptor_counts.ensures.none c.if-any_descriptor_counts.false) pairs c.record_decisions.new.pairs
    all c.record_decisions.ensures
    ∙ same_found (decided_by seen true R4b (node_in named from)) (decided_by seen true R4b node)
    (AreWithin (length from.unresolved))
    (λ one w. ap (λ n. decided R4b (difference_by seen true n (node_in named from one.second) R4b)) (before.nodes
    one.first)
    ∙ ap (λ n. decided R4b (difference_by seen true (node one.first) n R4b)) (before.nodes one.second)) pairs all

pub returns-then-any_descriptor_counts-clause-found : goal.returns-then-any_descriptor_counts-clause-found
returns-then-any_descriptor_counts-clause-found g c seen named node count begin rules within before key_or_zero =
    let from = c.args.branches.now in
    let pairs = c.args.pairs.now in
    let took = c.take_both.ensures in
    let all = subst (AllByRecursion (AreWithin (length from.unresolved))) (sym before.noted)
    (all_within (decided_in_turn seen true rules node) (length from.unresolved) begin
    (subst (λ n. AllByRecursion (AreWithin n) begin) (sym before.tops) within)) in
    elim (cases_lt 0 (length from.layers.place_tree.place_parents)) [
      | inl some ↦
          readings_found seen named from c.requires.followed (took.may some) before.stands before.ended before.tall
          (g.M.DescriptorMap.descriptors c.args.descriptors.now) key_or_zero pairs c.take_both.new.pairs all (took.taken some)
          ∙ same_found (decided_by seen true R4b (node_in named from)) (decided_by seen true R4b node)
          (AreWithin (length from.unresolved))
          (λ one w. ap (λ n. decided R4b (difference_by seen true n (node_in named from one.second) R4b))
          (before.nodes one.first)
          ∙ ap (λ n. decided R4b (difference_by seen true (node one.first) n R4b)) (before.nodes one.second)) pairs all
      | inr none ↦
          let no_place : length from.layers.place_tree.place_parents ≡ 0 = omega (arith, none) in
          let no_branch : length from.unresolved ≡ 0 = omega (arith, took.tops, no_place) in
          took.none no_place
          ∙ none_asked (decided_by seen true R4b node) pairs
          (subst (λ n. AllByRecursion (AreWithin n) pairs) no_branch all)
    ]

pub take_both-requires-clause-keyed : goal.take_both-requires-clause-keyed
take_both-requires-clause-keyed g c = c.requires.keyed

pub take_both-requires-clause-followed : goal.take_both-requires-clause-followed
take_both-requires-clause-followed g c = c.requires.followed

pub any_descriptor_counts-requires-clause-keyed : goal.any_descriptor_counts-requires-clause-keyed
any_descriptor_counts-requires-clause-keyed g c = c.requires.keyed

pub take_both-requires-clause-room : goal.take_both-requires-clause-room
take_both-requires-clause-room g c = c.requires.room

pub returns-then-any_descriptor_counts-clause-bound : goal.returns-then-any_descriptor_counts-clause-bound
returns-then-any_descriptor_counts-clause-bound g c = c.take_both.ensures.bound
