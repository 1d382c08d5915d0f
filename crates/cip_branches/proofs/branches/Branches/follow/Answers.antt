use Rattle.std.proofs.Common.{◌≡◌, ◌+◌, suc, Bool, List, length, arith, ◌∙◌, sym, ap, subst}
use Rattle.cip_branches.specs.ViewedTree.{kids_around}
use Rattle.cip_branches.specs.Deciding.{AreFollowed, Branched, FlagsOpen}
use Rattle.cip_partition.specs.PlaceTree.{PlaceTree}
use Rattle.cip_branches.specs.Following.{Follows}
use Rattle.cip_branches.specs.SphereColumns.{SphereColumns}
use Rattle.cip_branches.specs.Walking.{MayWalk}
use Rattle.cip_branches.proofs.lemmas.walked.Ranked.{first_stays}
use Rattle.cip_branches.proofs.lemmas.ruled.Open.{open_again}
use Rattle.cip_branches.proofs.branches.Branches.follow.Goals as goal

pub follow-requires-clause-ranked : goal.follow-requires-clause-ranked
follow-requires-clause-ranked g c = (subst AreFollowed (sym c.self.view_is) c.requires.followed).ranked

pub follow-requires-clause-walk : goal.follow-requires-clause-walk
follow-requires-clause-walk g c =
    let was = c.requires.followed in
    let size = length c.args.around.now.table.now.parents in
    subst (λ (b : Branched). MayWalk size (kids_around c.args.around.now.table.now.parents c.args.around.now.way.now)
    c.as_slice.result.now b.first b.last b.layers) (sym c.self.view_is) (record {
      spheres = was.ranked.spheres;
      count = was.ranked.count;
      ends = was.ranked.ends;
      places = was.places c.as_slice.result.now;
      within = was.within;
      nodes = λ p low high. c.requires.nodes.each p high;
      room = c.requires.room;
      sphere_room = c.requires.sphere_room;
    })

pub overflow_add-self : goal.overflow_add-self
overflow_add-self g c =
    let last = ap (λ (b : Branched). b.last) c.self.view_is in
    let room = ap (λ (b : Branched). b.layers.place_tree.room) c.self.view_is in
    omega (arith, last, room, c.requires.sphere_room, c.len-known.ensures.few)

pub invariant_of-self : goal.invariant_of-self
invariant_of-self g c =
    let follows = c.follow.ensures.followed in
    let was = c.self.invariant in
    let grows = follows.walked.walks.grows in
    let place_tree = follows.place_tree ∙ ap (λ (s : SphereColumns). s.place_tree) follows.walked.ended in
    let place_parents = ap (λ (k : PlaceTree). length k.place_parents) place_tree in
    let room = sym (ap (λ (k : PlaceTree). k.room) place_tree ∙ grows.kin_room) in
    let more = grows.more in
    let tops = was.tops in
    record {
      wanted_room = was.wanted_room ∙ room;
      opens_room = was.opens_room ∙ room;
      tops = omega (arith, tops, more, place_parents);
      opens_len = was.opens_len;
    }

pub returns-clause-walked : goal.returns-clause-walked
returns-clause-walked g c =
    let size = length c.args.around.now.table.now.parents in
    let kids_at = kids_around c.args.around.now.table.now.parents c.args.around.now.way.now in
    let keys = g.K.Keyed.key c.args.keys.now in
    let old = c.args.self.now in
    let inside = c.self.inside in
    subst (λ (b : Branched). Follows old.layers old.first old.last size kids_at old.unresolved keys b.layers)
    (sym c.drop_distinct.ensures.others)
    (subst (λ (b : Branched). Follows b.layers b.first b.last size kids_at b.unresolved keys c.follow.new.self) c.self.view_is
    (subst (λ (bs : List Bool). Follows inside.spheres inside.first inside.last size kids_at bs keys c.follow.new.self)
    c.as_slice.ensures c.follow.ensures.followed))

pub returns-clause-first : goal.returns-clause-first
returns-clause-first g c =
    ap (λ (b : Branched). b.first) c.drop_distinct.ensures.others ∙ c.len-known.ensures.count
    ∙ ap (λ (b : Branched). length b.layers.place_tree.place_parents) c.self.view_is

pub returns-clause-last : goal.returns-clause-last
returns-clause-last g c =
    let next : c.self.inside.last + 1 ≡ suc c.self.inside.last = omega arith in
    ap (λ (b : Branched). b.last) c.drop_distinct.ensures.others ∙ next ∙ ap (λ (b : Branched). suc b.last) c.self.view_is

pub returns-clause-room : goal.returns-clause-room
returns-clause-room g c =
    let follows = c.follow.ensures.followed in
    ap (λ (b : Branched). b.layers.place_tree.room) c.drop_distinct.ensures.others
    ∙ ap (λ (k : PlaceTree). k.room) (follows.place_tree ∙ ap (λ (s : SphereColumns). s.place_tree) follows.walked.ended)
    ∙ follows.walked.walks.grows.kin_room ∙ ap (λ (b : Branched). b.layers.place_tree.room) c.self.view_is

pub returns-clause-chosen : goal.returns-clause-chosen
returns-clause-chosen g c =
    let flags = c.drop_distinct.new.self.unresolved in
    subst (λ (b : Branched). FlagsOpen b.layers.ranked.numbers c.args.self.now.unresolved flags) (sym c.drop_distinct.ensures.others)
    (subst (λ (b : Branched). FlagsOpen c.follow.new.self.ranked.numbers b.unresolved flags) c.self.view_is
    c.drop_distinct.ensures.chosen)

pub returns-clause-followed : goal.returns-clause-followed
returns-clause-followed g c =
    let now = c.follow.new.self in
    let follows = c.follow.ensures.followed in
    let grows = follows.walked.walks.grows in
    let place_tree = follows.place_tree ∙ ap (λ (s : SphereColumns). s.place_tree) follows.walked.ended in
    let place_parents = ap (λ (k : PlaceTree). length k.place_parents) place_tree in
    let count = c.len-known.ensures.count in
    let was = subst AreFollowed (sym c.self.view_is) c.requires.followed in
    let chosen = c.drop_distinct.ensures.chosen in
    let last : suc c.self.inside.last ≡ c.self.inside.last + 1 = omega arith in
    rw c.drop_distinct.ensures.others (record {
      ranked = rw (sym last) c.follow.ensures.ranked;
      places = λ flags. rw (sym last, count) (c.follow.ensures.places flags);
      within = let more = grows.more in omega (arith, more, place_parents, count);
      nodes_len = ap (λ (k : PlaceTree). length k.nodes) place_tree ∙ grows.entries.nodes ∙ sym place_parents;
      chosen = record {
        tie = open_again now.ranked.numbers c.self.inside.unresolved.items c.drop_distinct.new.self.unresolved chosen;
        top = λ branch has. first_stays c.self.inside.spheres now c.self.inside.first c.self.inside.last
            (length c.args.around.now.table.now.parents)
            (kids_around c.args.around.now.table.now.parents c.args.around.now.way.now) c.as_slice.result.now
            (g.K.Keyed.key c.args.keys.now) was.ranked follows branch
            (was.chosen.top branch (chosen.fewer.each branch has));
      };
    })

pub follow-requires-clause-keyed : goal.follow-requires-clause-keyed
follow-requires-clause-keyed g c = c.requires.keyed
