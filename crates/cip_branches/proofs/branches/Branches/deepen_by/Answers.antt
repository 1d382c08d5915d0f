use Rattle.std.proofs.Common.{ap}
use Rattle.cip_branches.specs.Deciding.{Branched}
use Rattle.cip_branches.proofs.lemmas.taken.Rules.{deeper_taken}
use Rattle.cip_branches.proofs.branches.Branches.deepen_by.Goals as goal

pub returns-clause-taken : goal.returns-clause-taken
returns-clause-taken g c =
    let keys = c.args.keys.now in
    deeper_taken (g.K.NodeKeys.children keys) (g.K.NodeKeys.named keys) (g.K.NodeKeys.earlier keys) c.requires.total
    (g.K.NodeKeys.node_key keys) c.args.self.now c.extend_rule.new.self (g.K.Keyed.key keys) c.requires.same
    c.extend_rule.ensures.chosen (ap (λ (b : Branched). b.last) c.extend_rule.ensures.others) c.args.far c.requires.far
    c.requires.taken c.extend_rule.ensures.deeper
