use Rattle.std.proofs.Common.{◌≡◌, ◌∙◌, arith, false, inl, inr, sym, true}
use Rattle.std.proofs.lemmas.Bool.{cases_lt}
use Rattle.cip_rules.proofs.lemmas.FoundRules.{rule_found, stands_after}
use Rattle.cip_rules.proofs.generic.apply_rule_to_nodes.Goals as goal

pub returns-clause-found : goal.returns-clause-found
returns-clause-found g c =
    let keys = c.args.keys.now in
    let begin = c.args.branches.now in
    let r = c.requires in
    rule_found (g.K.NodeKeys.children keys) (g.K.NodeKeys.named keys) (g.K.NodeKeys.earlier keys) r.total
    (g.K.NodeKeys.node_key keys) begin r.stands r.ended (g.K.Keyed.key keys) r.same c.args.rule c.args.pairs.now
    c.apply_rule.new.pairs c.apply_rule.new.branches c.apply_rule.ensures.taken begin.last (omega arith) r.within

pub returns-clause-stands : goal.returns-clause-stands
returns-clause-stands g c undone =
    let keys = c.args.keys.now in
    let begin = c.args.branches.now in
    let r = c.requires in
    let taken = c.apply_rule.ensures.taken in
    let reached : taken.far ≡ begin.last = elim (cases_lt taken.far begin.last) [
      | inl early ↦ let bad : false ≡ true = sym undone ∙ c.apply_rule.ensures.all ∙ taken.early early in cc
      | inr late ↦ let within = taken.within in omega (arith, late, within)
    ] in
    stands_after (g.K.NodeKeys.children keys) (g.K.NodeKeys.named keys) (g.K.NodeKeys.earlier keys) r.total
    (g.K.NodeKeys.node_key keys) begin r.stands r.ended (g.K.Keyed.key keys) r.same c.args.rule c.args.pairs.now
    c.apply_rule.new.pairs c.apply_rule.new.branches taken begin.last (omega arith) reached

pub apply_rule-requires-clause-keyed : goal.apply_rule-requires-clause-keyed
apply_rule-requires-clause-keyed g c = c.requires.keyed

pub returns-clause-followed : goal.returns-clause-followed
returns-clause-followed g c = c.apply_rule.ensures.followed
