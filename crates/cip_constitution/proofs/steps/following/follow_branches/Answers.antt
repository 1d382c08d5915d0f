use Rattle.std.proofs.Common.{◌<◌, ◌+◌, ◌-◌, ℕ, List, [], length, arith, sym, subst}
use Rattle.std.proofs.lemmas.Grind.{common_steps}
use Rattle.cip_branches.specs.ViewedTree.{kids_around}
use Rattle.cip_branches.specs.Following.{Follows}
use Rattle.cip_branches.specs.Walking.{kids_left}
use Rattle.cip_partition.specs.Keys.{AreKeyed}
use Rattle.cip_constitution.proofs.lemmas.followed.Branches.{atoms_of, few_now, keyed_as, room_as, follows_as}
use Rattle.cip_constitution.proofs.steps.following.follow_branches.Goals as goal

pub follow-requires-clause-followed : goal.follow-requires-clause-followed
follow-requires-clause-followed c = c.requires.followed.2.followed

pub follow-requires-clause-nodes : goal.follow-requires-clause-nodes
follow-requires-clause-nodes c =
    let s = c.requires.followed.0 in
    let grown = c.requires.followed.1 in
    let old = c.args.branches.now in
    subst (λ (ps : List ℕ). AreKeyed (length ps) old.layers.place_tree) (sym c.table.ensures)
    (keyed_as s.graph s.positions c.args.arena.now grown.holds grown.last grown.fits c.requires.further old
    c.requires.followed.2)

pub follow-requires-clause-room : goal.follow-requires-clause-room
follow-requires-clause-room c =
    let a = c.args.arena.now in
    let old = c.args.branches.now in
    let s = c.requires.followed.0 in
    let grown = c.requires.followed.1 in
    let room = subst (λ (ps : List ℕ). length old.layers.place_tree.place_parents + kids_left (kids_around ps []) old.layers.place_tree.nodes
    old.first (length old.layers.place_tree.place_parents - old.first) < length a.nodes) (sym c.table.ensures)
    (room_as s.graph s.positions a grown.holds grown.last grown.fits c.requires.further old c.requires.followed.2) in
    let wide = c.requires.room in
    let fits = grown.fits in
    omega (arith, room, wide, fits)

pub follow-requires-clause-sphere_room : goal.follow-requires-clause-sphere_room
follow-requires-clause-sphere_room c =
    let s = c.requires.followed.0 in
    let grown = c.requires.followed.1 in
    let few = few_now s.graph s.positions c.args.arena.now grown.holds grown.last grown.fits in
    let last = c.requires.followed.2.last in
    let wide = c.requires.room in
    let further = c.requires.further in
    let fits = grown.fits in
    omega (arith, few, last, wide, further, fits)

pub returns-clause-followed : goal.returns-clause-followed
returns-clause-followed c setting grown followed =
    let a = c.args.arena.now in
    let old = c.args.branches.now in
    let new = c.follow.new.self in
    follows_as setting.graph setting.positions a grown.holds grown.last grown.fits c.requires.further old followed
    c.requires.room new
    (subst (λ (ps : List ℕ). Follows old.layers old.first old.last (length ps) (kids_around ps []) old.unresolved
    (atoms_of a.nodes) new.layers)
    c.table.ensures c.follow.ensures.walked) c.follow.ensures.followed c.follow.ensures.first c.follow.ensures.last
    c.follow.ensures.chosen

pub follow-requires-clause-keyed : goal.follow-requires-clause-keyed
follow-requires-clause-keyed c = grind (arith, common_steps)
