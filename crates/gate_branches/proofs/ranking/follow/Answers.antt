use Rattle.std.proofs.Common.{map, pos, arith, ap, ◌∙◌}
use Rattle.cip_branches.specs.Deciding.{Branched}
use Rattle.gate_branches.proofs.lemmas.SeenBranches.{next_to, tops_few, tops_below, walked_first, walked_keyed, walked_room, walked_next}
use Rattle.gate_branches.proofs.ranking.follow.Goals as goal

pub begin-requires-clause-room : goal.begin-requires-clause-room
begin-requires-clause-room c =
    let nodes = c.deref.result.now in
    let are = ◌∙◌ {c = next_to c.args.around.now.table.now.parents c.args.from} c.deref.ensures.value
    c.in_ok-tops.ensures in
    let few = tops_few c.args.around.now.table.now.parents c.len-count.ensures.tree c.args.from c.requires.inside
    c.args.around.now.way.now c.requires.way nodes are in
    let room = ap (λ (now : Branched). now.layers.place_tree.room) c.in_ok-branches.ensures in
    omega (arith, few, c.requires.fits, room)

pub begin-requires-clause-keyed : goal.begin-requires-clause-keyed
begin-requires-clause-keyed c = λ k lt.
    let nodes = c.deref.result.now in
    let are = ◌∙◌ {c = next_to c.args.around.now.table.now.parents c.args.from} c.deref.ensures.value
    c.in_ok-tops.ensures in
    let low = tops_below c.args.around.now.table.now.parents c.len-count.ensures.tree c.args.from c.requires.inside
    c.args.around.now.way.now c.requires.way nodes are k lt in
    omega (arith, low, c.requires.keyed)

pub loop-init : goal.loop-init
loop-init c = record {
  walked = walked_first c.args.around.now.table.now.parents c.len-count.ensures.tree c.args.from c.requires.inside
      c.args.around.now.way.now c.requires.way c.deref.result.now (map pos c.args.keys.now.list.now) c.begin.new.self
      (◌∙◌ {c = next_to c.args.around.now.table.now.parents c.args.from} c.deref.ensures.value c.in_ok-tops.ensures) c.begin.ensures.begun c.begin.ensures.followed
      c.begin.ensures.first;
  room = c.begin.ensures.room ∙ ap (λ (now : Branched). now.layers.place_tree.room) c.in_ok-branches.ensures;
}

pub follow-requires-clause-nodes : goal.follow-requires-clause-nodes
follow-requires-clause-nodes c = walked_keyed c.args.around.now.table.now.parents c.len-count.ensures.tree c.args.from
    c.requires.inside c.args.around.now.way.now c.requires.way c.loop.branches c.loop.invariant.walked

pub follow-requires-clause-room : goal.follow-requires-clause-room
follow-requires-clause-room c =
    let few = walked_room c.args.around.now.table.now.parents c.len-count.ensures.tree c.args.from c.requires.inside
    c.args.around.now.way.now c.requires.way c.loop.branches c.loop.invariant.walked in
    omega (arith, few, c.requires.fits, c.loop.invariant.room)

pub loop-preserved : goal.loop-preserved
loop-preserved c = record {
  walked = walked_next c.args.around.now.table.now.parents c.len-count.ensures.tree c.args.from c.requires.inside
      c.args.around.now.way.now c.requires.way c.loop.branches c.loop.invariant.walked
      (map pos c.args.keys.now.list.now) c.follow.new.self c.follow.ensures.walked c.follow.ensures.followed
      c.follow.ensures.first;
  room = c.follow.ensures.room ∙ c.loop.invariant.room;
}
