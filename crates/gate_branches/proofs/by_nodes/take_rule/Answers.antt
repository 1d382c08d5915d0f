use Rattle.std.proofs.Common.{◌≡◌, Bool, true, false, not, refl}
use Rattle.gate_branches.proofs.lemmas.RankedInTurn.{keys_of_nodes, ranked_by, total_before}
use Rattle.gate_branches.proofs.by_nodes.take_rule.Goals as goal

not_true : (b : Bool) → not b ≡ true → b ≡ false
not_true true e = let bad : false ≡ true = e in cc
not_true false e = refl

pub apply_rule_to_nodes-requires-clause-total : goal.apply_rule_to_nodes-requires-clause-total
apply_rule_to_nodes-requires-clause-total c = total_before c.args.digraph.now c.args.rule

pub apply_rule_to_nodes-requires-clause-same : goal.apply_rule_to_nodes-requires-clause-same
apply_rule_to_nodes-requires-clause-same c = keys_of_nodes c.args.digraph.now c.args.branches.now c.args.rule

pub returns-clause-stands : goal.returns-clause-stands
returns-clause-stands c undecided = ranked_by c.args.digraph.now c.apply_rule_to_nodes.new.branches c.args.rule
    c.requires.keyed c.args.branches.now.last (c.if-not-may_decide.ensures.ended refl).last
    (c.apply_rule_to_nodes.ensures.stands (not_true c.apply_rule_to_nodes.result undecided))
