use Rattle.std.proofs.Common.{◌≡◌, ◌<◌, ◌+◌, ◌-◌, ℕ, List, length, map, slice_index, arith, ◌∙◌, sym, ap, subst}
use Rattle.std.proofs.lemmas.Grind.{common_steps}
use Rattle.cip_branches.specs.ViewedTree.{kids_around}
use Rattle.cip_branches.specs.Following.{Begins, Follows}
use Rattle.cip_branches.specs.Walking.{kids_left}
use Rattle.cip_mol.specs.declared.labels.outcome.Rule.TheVariants.{R1a}
use Rattle.cip_digraph.specs.declared.nodes.NodeData.{NodeData}
use Rattle.cip_digraph.proofs.lemmas.lists.Elements.{by_recursion}
use Rattle.cip_digraph.specs.Asking.{AreWithin, found_between, with_found}
use Rattle.cip_rules.proofs.lemmas.FoundWithin.{nothing_found}
use Rattle.cip_digraph.specs.digraph.NodeList.{parents_of}
use Rattle.cip_rules.specs.NodeKeys.{atomic_keys}
use Rattle.cip_aux.specs.Views.{sight_of}
use Rattle.cip_aux.proofs.lemmas.Data.{whole_shows}
use Rattle.cip_aux_rank.proofs.lemmas.FollowedViews.{IsNoted, told_len, tops_few, tops_keyed, around_first, around_room, around_last, around_next, around_followed, more_noted}
use Rattle.cip_aux_rank.proofs.branches.follow.follow_to_end.Goals as goal

pub begin-requires-clause-room : goal.begin-requires-clause-room
begin-requires-clause-room g c =
    let sight = sight_of c.args.whole.now in
    let shows = whole_shows c.args.whole.now c.nodes-nodes.ensures.whole in
    let few = tops_few sight shows c.args.node c.requires.real c.args.way.now c.requires.way.each c.args.tops.now
    c.requires.tops in
    let len = told_len sight shows c.args.node c.requires.real c.args.way.now c.requires.way.each in
    let room = c.requires.room in
    omega (arith, few, len, room)

pub begin-requires-clause-keyed : goal.begin-requires-clause-keyed
begin-requires-clause-keyed g c =
    let sight = sight_of c.args.whole.now in
    let shows = whole_shows c.args.whole.now c.nodes-nodes.ensures.whole in
    subst (λ (all : List NodeData). (k : ℕ) → k < length c.args.tops.now → slice_index c.args.tops.now k < length all)
    (sym c.nodes-nodes.ensures.node_data) (tops_keyed sight shows c.args.node c.requires.real c.args.way.now
    c.requires.way.each c.args.tops.now c.requires.tops)

pub loop-keys-init : goal.loop-keys-init
loop-keys-init g c =
    let sight = sight_of c.args.whole.now in
    let shows = whole_shows c.args.whole.now c.nodes-nodes.ensures.whole in
    let new = c.begin.new.self in
    let on = c.requires.way.each in
    let tops = c.args.tops.now in
    let around = around_first sight shows c.args.node c.requires.real c.args.way.now on tops c.requires.tops new
    (subst (λ (all : List NodeData). Begins tops (atomic_keys all) new.layers) c.nodes-nodes.ensures.node_data
    c.begin.ensures.begun) c.begin.ensures.followed c.begin.ensures.first c.begin.ensures.last c.begin.ensures.chosen in
    let within = by_recursion (AreWithin (length tops)) c.args.requested.now c.requires.within in
    record {
      around = around;
      noted = more_noted sight shows c.args.node c.requires.real c.args.way.now on tops new around c.args.requested.now
          c.args.requested.now within c.record_decisions.new.pairs
          (subst (λ d. IsNoted sight c.args.node tops d c.args.requested.now c.args.requested.now) (sym c.begin.ensures.last)
          (sym (nothing_found c.args.requested.now)))
          (subst (λ d. c.record_decisions.new.pairs ≡ map (with_found (found_between new.layers.ranked.numbers R1a d))
          c.args.requested.now) (sym c.begin.ensures.last) c.record_decisions.ensures);
      room = c.begin.ensures.room;
    }

pub follow-requires-clause-room : goal.follow-requires-clause-room
follow-requires-clause-room g c =
    let sight = sight_of c.args.whole.now in
    let shows = whole_shows c.args.whole.now c.nodes-nodes.ensures.whole in
    let old = c.loop-keys.branches in
    let parents = c.table-table.ensures ∙ ap parents_of c.nodes-nodes.ensures.node_data in
    let few = subst (λ (ps : List ℕ). length old.layers.place_tree.place_parents + kids_left (kids_around ps c.args.way.now)
    old.layers.place_tree.nodes old.first (length old.layers.place_tree.place_parents - old.first) < length ps) (sym parents)
    (around_room sight shows c.args.node c.requires.real c.args.way.now c.requires.way.each c.args.tops.now old
    c.loop-keys.invariant.around) in
    let count = ap (λ (ps : List ℕ). length ps) parents in
    let len = told_len sight shows c.args.node c.requires.real c.args.way.now c.requires.way.each in
    let same = c.loop-keys.invariant.room in
    let room = c.requires.room in
    omega (arith, few, count, len, same, room)

pub follow-requires-clause-sphere_room : goal.follow-requires-clause-sphere_room
follow-requires-clause-sphere_room g c =
    let sight = sight_of c.args.whole.now in
    let shows = whole_shows c.args.whole.now c.nodes-nodes.ensures.whole in
    let last = around_last sight shows c.args.node c.requires.real c.args.way.now c.requires.way.each c.args.tops.now
    c.loop-keys.branches c.loop-keys.invariant.around (c.goes_on.ensures.more c.loop-keys-test.true) in
    let len = told_len sight shows c.args.node c.requires.real c.args.way.now c.requires.way.each in
    let same = c.loop-keys.invariant.room in
    let room = c.requires.room in
    omega (arith, last, len, same, room)

pub loop-keys-smaller : goal.loop-keys-smaller
loop-keys-smaller g c =
    let sight = sight_of c.args.whole.now in
    let shows = whole_shows c.args.whole.now c.nodes-nodes.ensures.whole in
    let few = around_room sight shows c.args.node c.requires.real c.args.way.now c.requires.way.each c.args.tops.now
    c.loop-keys.branches c.loop-keys.invariant.around in
    let some = c.goes_on.ensures.more c.loop-keys-test.true in
    let first = c.follow.ensures.first in
    let len = told_len sight shows c.args.node c.requires.real c.args.way.now c.requires.way.each in
    omega (arith, few, some, first, len)

pub loop-keys-preserved : goal.loop-keys-preserved
loop-keys-preserved g c =
    let sight = sight_of c.args.whole.now in
    let shows = whole_shows c.args.whole.now c.nodes-nodes.ensures.whole in
    let old = c.loop-keys.branches in
    let new = c.follow.new.self in
    let parents = c.table-table.ensures ∙ ap parents_of c.nodes-nodes.ensures.node_data in
    let len = told_len sight shows c.args.node c.requires.real c.args.way.now c.requires.way.each in
    let same = c.loop-keys.invariant.room in
    let room = c.requires.room in
    let walks = subst (λ (ps : List ℕ). Follows old.layers old.first old.last (length ps)
    (kids_around ps c.args.way.now) old.unresolved (atomic_keys c.args.whole.now.node_data) new.layers) parents
    (subst (λ (all : List NodeData). Follows old.layers old.first old.last (length c.table-table.result.now.parents)
    (kids_around c.table-table.result.now.parents c.args.way.now) old.unresolved (atomic_keys all) new.layers)
    c.nodes-nodes.ensures.node_data c.follow.ensures.walked) in
    let last = c.last-depth.ensures.last in
    let tops = c.args.tops.now in
    let on = c.requires.way.each in
    let around = around_next sight shows c.args.node c.requires.real c.args.way.now on tops old
    c.loop-keys.invariant.around (c.goes_on.ensures.more c.loop-keys-test.true) (omega (arith, len, same, room)) new
    walks c.follow.ensures.followed c.follow.ensures.first c.follow.ensures.last c.follow.ensures.chosen in
    let within = by_recursion (AreWithin (length tops)) c.args.requested.now c.requires.within in
    let next : old.last + 1 ≡ new.last = let is = c.follow.ensures.last in omega (arith, is) in
    record {
      around = around;
      noted = more_noted sight shows c.args.node c.requires.real c.args.way.now on tops new around c.args.requested.now
          c.loop-keys.requested within c.record_decisions-in-loop-keys.new.pairs
          (subst (λ d. IsNoted sight c.args.node tops d c.args.requested.now c.loop-keys.requested) next
          c.loop-keys.invariant.noted)
          (subst (λ d. c.record_decisions-in-loop-keys.new.pairs ≡ map (with_found (found_between new.layers.ranked.numbers R1a d))
          c.loop-keys.requested) last c.record_decisions-in-loop-keys.ensures);
      room = c.follow.ensures.room ∙ c.loop-keys.invariant.room;
    }

pub returns-clause-followed : goal.returns-clause-followed
returns-clause-followed g c =
    let tops = c.args.tops.now in
    around_followed (sight_of c.args.whole.now) (whole_shows c.args.whole.now c.nodes-nodes.ensures.whole) c.args.node
    c.requires.real c.args.way.now c.requires.way.each tops c.loop-keys.branches c.loop-keys.invariant.around
    c.args.requested.now c.loop-keys.requested (by_recursion (AreWithin (length tops)) c.args.requested.now c.requires.within)
    (c.goes_on.ensures.ended c.loop-keys-test.false) c.loop-keys.invariant.noted

pub follow-requires-clause-nodes : goal.follow-requires-clause-nodes
follow-requires-clause-nodes g c = grind (arith, common_steps)

pub follow-requires-clause-keyed : goal.follow-requires-clause-keyed
follow-requires-clause-keyed g c = grind (arith, common_steps)
