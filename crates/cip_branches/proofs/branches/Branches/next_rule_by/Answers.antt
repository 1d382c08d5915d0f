use Rattle.std.proofs.Common.{ap}
use Rattle.cip_branches.specs.Deciding.{Branched}
use Rattle.cip_branches.proofs.lemmas.taken.Rules.{begun_taken}
use Rattle.cip_branches.proofs.branches.Branches.next_rule_by.Goals as goal

pub returns-clause-taken : goal.returns-clause-taken
returns-clause-taken g c =
    let keys = c.args.keys.now in
    begun_taken (g.K.NodeKeys.children keys) (g.K.NodeKeys.named keys) (g.K.NodeKeys.earlier keys) c.requires.total
    (g.K.NodeKeys.node_key keys) c.args.self.now c.next_rule.new.self (g.K.Keyed.key keys) c.requires.same
    c.next_rule.ensures.chosen (ap (λ (b : Branched). b.last) c.next_rule.ensures.others) c.requires.stands
    c.next_rule.ensures.split
