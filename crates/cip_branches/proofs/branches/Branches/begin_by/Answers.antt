use Rattle.cip_branches.proofs.lemmas.ruled.Decided.{decided_first, ties_total}
use Rattle.cip_branches.proofs.branches.Branches.begin_by.Goals as goal

pub returns-clause-decided : goal.returns-clause-decided
returns-clause-decided g c =
    let keys = c.args.keys.now in
    let begun = c.begin.ensures in
    let earlier = g.K.NodeKeys.earlier keys in
    decided_first (g.K.NodeKeys.children keys) earlier (ties_total earlier c.requires.first) c.requires.first
    (g.K.NodeKeys.node_key keys) (g.K.NodeKeys.named keys) c.begin.new.self c.args.tops.now (g.K.Keyed.key keys) begun.begun begun.followed begun.first
    begun.last begun.chosen c.requires.same
