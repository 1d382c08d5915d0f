use Rattle.std.proofs.Common.{length}
use Rattle.cip_branches.specs.ViewedTree.{kids_around}
use Rattle.cip_branches.proofs.lemmas.ruled.Decided.{decided_after, ties_total}
use Rattle.cip_branches.proofs.branches.Branches.follow_by.Goals as goal

pub returns-clause-decided : goal.returns-clause-decided
returns-clause-decided g c =
    let keys = c.args.keys.now in
    let around = c.args.around.now in
    let old = c.args.self.now in
    let was = c.requires.followed in
    let earlier = g.K.NodeKeys.earlier keys in
    decided_after (g.K.NodeKeys.children keys) earlier (ties_total earlier c.requires.first) c.requires.first
    (g.K.NodeKeys.node_key keys) (g.K.NodeKeys.named keys) old c.requires.decided (length around.table.now.parents)
    (kids_around around.table.now.parents around.way.now) (g.K.Keyed.key keys)
    (record {
      spheres = was.ranked.spheres;
      count = was.ranked.count;
      ends = was.ranked.ends;
      places = was.places old.unresolved;
      within = was.within;
      nodes = λ p low lt. c.requires.nodes.each p lt;
      room = c.requires.room;
      sphere_room = c.requires.sphere_room;
    })
    c.requires.names c.requires.nodes c.follow.new.self c.follow.ensures.last c.follow.ensures.chosen
    c.follow.ensures.walked
