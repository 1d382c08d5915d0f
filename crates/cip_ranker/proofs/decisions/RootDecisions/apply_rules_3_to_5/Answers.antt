use Rattle.std.proofs.Common.{rules, ◌≡◌, ◌++◌, List, take, drop, length, sym, ap, ◌∙◌, subst}
use Rattle.std.proofs.Math.Seq.{take-append_seam}
use Rattle.cip_constitution.specs.FollowedOut.{AreOrdered}
use Rattle.cip_digraph.specs.declared.decisions.branch_pair.BranchPair.{BranchPair}
use Rattle.cip_ranker.specs.Standing.{by_vertices}
use Rattle.cip_ranker.proofs.lemmas.KnownRoots.{on_ok}
use Rattle.cip_ranker.proofs.decisions.RootDecisions.apply_rules_3_to_5.Goals as goal

pub returns-clause-ordered : goal.returns-clause-ordered
returns-clause-ordered c =
    let work = c.args.work.now in
    let new = c.apply_rules_3_to_5.new.turned in
    let rest = drop (length new) c.copy.new.other.items in
    let count : c.copy.new.other.len ≡ length new = search rules in
    let turned : c.as_slice.result.now ≡ new = c.as_slice.ensures.value ∙ ap (λ n. take n (new ++ rest)) count
    ∙ take-append_seam new rest in
    on_ok c.name-2.result c.name-2.ensures
    (λ natural. record {
      first = c.apply_rules_3_to_5.new.self.noted;
      second = c.as_slice.result.now;
      ordered = subst (λ (requested : List BranchPair). AreOrdered work c.args.descriptors.now.descriptors c.apply_rules_3_to_5.new.self.noted requested)
          (sym turned) c.apply_rules_3_to_5.ensures.ordered;
      natural = natural ∙ (λ k. by_vertices ((c.pairs-2.ensures ∙ c.apply_rules_3_to_5.ensures.pairs) k) (c.noted-2.ensures k));
      turned = c.in-Ok-name.ensures ∙ ap (λ pairs. by_vertices pairs c.as_slice.result.now)
          (c.pairs.ensures ∙ c.apply_rules_3_to_5.ensures.pairs);
    })

pub returns-clause-len : goal.returns-clause-len
returns-clause-len c = on_ok c.name-2.result c.name-2.ensures (λ _. c.apply_rules_3_to_5.ensures.len)

pub returns-clause-same : goal.returns-clause-same
returns-clause-same c = on_ok c.name-2.result c.name-2.ensures (λ _. c.apply_rules_3_to_5.ensures.same)

pub returns-clause-pairs : goal.returns-clause-pairs
returns-clause-pairs c = on_ok c.name-2.result c.name-2.ensures (λ _. c.apply_rules_3_to_5.ensures.pairs)

pub apply_rules_3_to_5-requires-clause-keyed : goal.apply_rules_3_to_5-requires-clause-keyed
apply_rules_3_to_5-requires-clause-keyed c = c.requires.keyed

pub apply_rules_3_to_5-requires-clause-followed : goal.apply_rules_3_to_5-requires-clause-followed
apply_rules_3_to_5-requires-clause-followed c = c.requires.followed

pub apply_rules_3_to_5-requires-clause-room : goal.apply_rules_3_to_5-requires-clause-room
apply_rules_3_to_5-requires-clause-room c = c.requires.room

pub returns-in_default-name-clause-readings : goal.returns-in_default-name-clause-readings
returns-in_default-name-clause-readings c = c.apply_rules_3_to_5.ensures.readings

pub returns-clause-readings : goal.returns-clause-readings
returns-clause-readings c = c.apply_rules_3_to_5.ensures.readings
