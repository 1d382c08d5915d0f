use Rattle.std.proofs.Common.{rules, ◌≤◌, Bool, false, List, length, sym, ap, ◌∙◌, subst, arith}
use Rattle.std.proofs.lemmas.List.{length-replicate}
use Rattle.cip_partition.specs.PlaceTree.{PlaceTree}
use Rattle.cip_partition.specs.ReservedList.{ReservedList}
use Rattle.cip_partition.proofs.lemmas.TwinLists.{halves_length}
use Rattle.cip_branches.specs.Deciding.{AreFollowed, Branched}
use Rattle.cip_branches.proofs.lemmas.doubled.Flags.{twin_wanted_len}
use Rattle.cip_branches.proofs.lemmas.doubled.Ranks.{twins_followed}
use Rattle.cip_branches.proofs.branches.Branches.fill_copies.Goals as goal
use Rattle.cip_branches.proofs.branches.Branches.fill_copies.Goals.{After-as_slice}

-- no more branches than places are doubled
held : (c : After-as_slice) → length c.as_slice.result.now ≤ c.len-count.result
held c =
    let seen = ap (λ (b : Branched). length b.layers.place_tree.place_parents) c.from.view_is in
    let lent = ap (λ (bs : List Bool). length bs) c.as_slice.ensures in
    omega (arith, seen, lent, c.len-count.ensures.count, c.from.invariant.tops)

pub write_unresolved-requires-clause-tops : goal.write_unresolved-requires-clause-tops
write_unresolved-requires-clause-tops c = held (goal.at.write_unresolved-requires-clause-tops c).After-as_slice

pub write_unresolved-requires-clause-room : goal.write_unresolved-requires-clause-room
write_unresolved-requires-clause-room c =
    let few = held (goal.at.write_unresolved-requires-clause-room c).After-as_slice in
    let room = ap (λ (b : Branched). b.layers.place_tree.room) c.self.view_is in
    omega (arith, few, room, c.len-count.ensures.count, c.requires.room, c.self.invariant.wanted_room)

pub fill-requires : goal.fill-requires
fill-requires c =
    let few = held (goal.at.fill-requires c).After-as_slice in
    let long = ap (λ (r : ReservedList Bool). length r.items) c.write_unresolved.ensures
    ∙ twin_wanted_len c.len-count.result c.as_slice.result.now few in
    let room = ap (λ (b : Branched). b.layers.place_tree.room) c.self.view_is in
    omega (
      arith,
      few,
      long,
      room,
      c.len-branches.ensures.count,
      c.len-count.ensures.count,
      c.requires.room,
      c.self.invariant.opens_room,
    )

pub overflow_add-self : goal.overflow_add-self
overflow_add-self c =
    let unresolved = ap (λ (r : ReservedList Bool). r.room) c.write_unresolved.ensures in
    let room = ap (λ (b : Branched). b.layers.place_tree.room) c.self.view_is in
    omega (
      arith,
      unresolved,
      room,
      c.len-branches.ensures.few,
      c.len-count.ensures.count,
      c.requires.room,
      c.self.invariant.wanted_room,
    )

pub invariant_of-self : goal.invariant_of-self
invariant_of-self c =
    let few = held (goal.at.invariant_of-self c).After-as_slice in
    let from = c.from.inside.spheres.place_tree in
    let room = sym (ap (λ (k : PlaceTree). k.room) c.write_copies.ensures.place_tree) in
    let place_parents = ap (λ (k : PlaceTree). length k.place_parents) c.write_copies.ensures.place_tree ∙ halves_length (length from.place_parents) from.place_parents in
    let seen = ap (λ (b : Branched). length b.layers.place_tree.place_parents) c.from.view_is in
    let unresolved = ap (λ (r : ReservedList Bool). length r.items) c.write_unresolved.ensures
    ∙ twin_wanted_len c.len-count.result c.as_slice.result.now few in
    record {
      wanted_room = ap (λ (r : ReservedList Bool). r.room) c.write_unresolved.ensures ∙ c.self.invariant.wanted_room ∙ room;
      opens_room = ap (λ (r : ReservedList Bool). r.room) c.fill.ensures ∙ c.self.invariant.opens_room ∙ room;
      tops = omega (arith, few, place_parents, seen, unresolved, c.len-count.ensures.count);
      opens_len = ap (λ (r : ReservedList Bool). length r.items) c.fill.ensures
          ∙ length-replicate c.len-branches.result false ∙ c.len-branches.ensures.count;
    }

pub returns-clause-few : goal.returns-clause-few
returns-clause-few c =
    let unresolved = ap (λ (r : ReservedList Bool). r.room) c.write_unresolved.ensures in
    let room = ap (λ (b : Branched). b.layers.place_tree.room) c.self.view_is in
    omega (arith, unresolved, room, c.len-branches.ensures.few, c.requires.room, c.self.invariant.wanted_room)

pub returns-clause-twins : goal.returns-clause-twins
returns-clause-twins c = search rules

pub returns-clause-may : goal.returns-clause-may
returns-clause-may c = search rules

pub returns-clause-followed : goal.returns-clause-followed
returns-clause-followed c = subst AreFollowed (sym (returns-clause-twins c))
    (twins_followed c.args.self.now.layers.place_tree.room c.args.from.now c.requires.followed (returns-clause-may c))
