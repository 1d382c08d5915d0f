use Rattle.std.proofs.Common.{refl}
use Rattle.gate_branches.proofs.lemmas.RankedInTurn.{descriptors_of_nodes}
use Rattle.gate_branches.proofs.by_nodes.take_reference.Goals as goal

pub apply_rule_4b_to_nodes-requires-clause-same : goal.apply_rule_4b_to_nodes-requires-clause-same
apply_rule_4b_to_nodes-requires-clause-same c = descriptors_of_nodes c.args.digraph.now c.args.branches.now
    c.requires.ranked.followed (c.if-may_decide.ensures.nodes refl) c.requires.descriptors
