use Rattle.std.proofs.Common.{◌≡◌, ◌<◌, ◌+◌, suc, ℕ, List, length, slice_index, arith, ◌∙◌, sym, ap, subst}
use Rattle.cip_rank.proofs.lemmas.ChildrenSeen.{off_below}
use Rattle.cip_branches.specs.ViewedTree.{kids_around}
use Rattle.cip_branches.specs.SphereColumns.{SphereColumns}
use Rattle.cip_partition.specs.Parting.{has_flag}
use Rattle.cip_branches.specs.Walking.{Walks, HaveEntries}
use Rattle.cip_branches.proofs.lemmas.walked.Places.{none_walked, stepped, few_more, left_at}
use Rattle.cip_branches.proofs.lemmas.walked.Next.{spheres_walked, places_walked}
use Rattle.cip_branches.proofs.growth.spheres.Spheres.grow_sphere.Goals as goal
use Rattle.cip_branches.proofs.growth.spheres.Spheres.grow_sphere.Goals.{After-len-past, After-end_sphere}

-- places after the known ones are new
past_is : (c : After-len-past) → c.len-past.result ≡ length c.args.self.now.place_tree.place_parents
past_is c = c.len-past.ensures.count ∙ ap (λ (s : SphereColumns). length s.place_tree.place_parents) c.self.view_is

is_known : (c : After-len-past) (place : ℕ) → place < c.len-past.result → place < length c.args.self.now.place_tree.place_parents
is_known c place lt = let past = past_is c in omega (arith, lt, past)

-- the walk has come to the last one
walks : (c : After-end_sphere) → Walks c.args.self.now c.args.first (length c.args.around.now.table.now.parents)
    (kids_around c.args.around.now.table.now.parents c.args.around.now.way.now) c.args.unresolved.now
    (length c.args.self.now.place_tree.place_parents) c.loop-place.self
walks c =
    let past : c.len-past.result ≡ length c.args.self.now.place_tree.place_parents = c.len-past.ensures.count
    ∙ ap (λ (s : SphereColumns). length s.place_tree.place_parents) c.self.view_is in
    let high = c.loop-place.invariant.high in
    let over = c.loop-place-test.false in
    let ended : c.loop-place.place ≡ length c.args.self.now.place_tree.place_parents = omega (arith, high, over, past) in
    rw (sym ended) c.loop-place.invariant.walks

below : (c : After-end_sphere) → (k : ℕ) → k < length c.args.self.now.ranked.rows
    → slice_index c.args.self.now.ranked.rows k < length c.args.self.now.place_tree.place_parents
below c = subst (λ (s : SphereColumns). (k : ℕ) → k < length s.ranked.rows → slice_index s.ranked.rows k < length s.place_tree.place_parents)
    c.self.view_is (λ k lt.
    let b = c.row_count-number.ensures.below k lt in
    omega (arith, b, c.self.invariant.numbers_len))

pub loop-place-init : goal.loop-place-init
loop-place-init c =
    let size = length c.args.around.now.table.now.parents in
    let kids_at = kids_around c.args.around.now.table.now.parents c.args.around.now.way.now in
    let past = past_is (goal.at.loop-place-init c).After-len-past in
    let family = c.len-past.ensures.family in
    let entries = subst HaveEntries c.self.view_is (record {
      nodes = family.nodes_len;
      branches = family.branches_len;
      firsts = family.firsts_len;
      counts = family.counts_len;
      numbers = c.self.invariant.numbers_len;
      before = c.self.invariant.before_len;
    }) in
    record {
      high = let le = c.requires.1.within in omega (arith, le, past);
      walks = none_walked c.args.self.now c.args.first size kids_at c.args.unresolved.now
          c.requires.1.places.bare entries;
      room = rw past c.requires.1.room;
    }

pub loop-place-preserved : goal.loop-place-preserved
loop-place-preserved c =
    let size = length c.args.around.now.table.now.parents in
    let kids_at = kids_around c.args.around.now.table.now.parents c.args.around.now.way.now in
    let high = is_known (goal.at.loop-place-preserved c).After-len-past c.loop-place.place c.loop-place-test.true in
    let left = left_at kids_at c.args.self.now.place_tree.nodes c.loop-place.place c.len-past.result
    c.loop-place-test.true in
    let room = c.loop-place.invariant.room in
    let is_row = c.row_count-number.ensures.count ∙ ap (λ (s : SphereColumns). length s.ranked.rows) c.self.view_is in
    let few = few_more c.args.self.now c.args.first size kids_at c.args.unresolved.now
    c.requires.1.places.bare c.loop-place.place c.loop-place.auto.place high c.loop-place.self
    c.loop-place.invariant.walks c.row_count-number.result c.walk_place_if.new.self c.walk_place_if.ensures.walked
    c.walk_place_if.ensures.skipped in
    record {
      high = let lt = c.loop-place-test.true in omega (arith, lt);
      walks =
          let next : suc c.loop-place.place ≡ c.loop-place.place + 1 = omega arith in
          subst (λ n. Walks c.args.self.now c.args.first size kids_at c.args.unresolved.now n
          c.walk_place_if.new.self) next
          (stepped c.args.self.now c.args.first size kids_at c.args.unresolved.now c.requires.1.places.bare
          c.loop-place.place c.loop-place.auto.place high c.loop-place.self c.loop-place.invariant.walks
          c.row_count-number.result c.walk_place_if.new.self is_row c.walk_place_if.ensures.walked
          c.walk_place_if.ensures.skipped (off_below (has_flag c.args.around.now.way.now)
          c.args.around.now.table.now.parents c.len-count.ensures.tree (slice_index c.args.self.now.place_tree.nodes
          c.loop-place.place) (c.requires.1.nodes c.loop-place.place c.loop-place.auto.place high)));
      room = omega (arith, few, left, room);
    }

pub walk_place_if-requires-clause-place : goal.walk_place_if-requires-clause-place
walk_place_if-requires-clause-place c =
    let high = is_known (goal.at.walk_place_if-requires-clause-place c).After-len-past c.loop-place.place
    c.loop-place-test.true in
    omega (arith, high, c.loop-place.invariant.walks.grows.more)

pub walk_place_if-requires-clause-node : goal.walk_place_if-requires-clause-node
walk_place_if-requires-clause-node c =
    let size = length c.args.around.now.table.now.parents in
    let high = is_known (goal.at.walk_place_if-requires-clause-node c).After-len-past c.loop-place.place
    c.loop-place-test.true in
    subst (λ n. n < size) (sym (c.loop-place.invariant.walks.grows.node c.loop-place.place high))
    (c.requires.1.nodes c.loop-place.place c.loop-place.auto.place high)

pub walk_place_if-requires-clause-room : goal.walk_place_if-requires-clause-room
walk_place_if-requires-clause-room c =
    let kids_at = kids_around c.args.around.now.table.now.parents c.args.around.now.way.now in
    let high = is_known (goal.at.walk_place_if-requires-clause-room c).After-len-past c.loop-place.place
    c.loop-place-test.true in
    let left = left_at kids_at c.args.self.now.place_tree.nodes c.loop-place.place c.len-past.result
    c.loop-place-test.true in
    let grows = c.loop-place.invariant.walks.grows in
    let same = ap (λ n. length (kids_at n)) (grows.node c.loop-place.place high) in
    omega (arith, left, c.loop-place.invariant.room, same, grows.kin_room)

pub end_sphere-requires : goal.end_sphere-requires
end_sphere-requires c =
    let grows = c.loop-place.invariant.walks.grows in
    let starts = ap (λ (ns : List ℕ). length ns) grows.starts in
    omega (arith, starts, grows.kin_room, c.requires.1.count, c.requires.1.sphere_room)

pub returns-clause-walked : goal.returns-clause-walked
returns-clause-walked c =
    let at = (goal.at.returns-clause-walked c).After-end_sphere in
    record { walked = c.loop-place.self; below = below at; walks = walks at; ended = c.end_sphere.ensures }

-- the starts say which sphere is the last one
last_is : (c : After-end_sphere) (last : ℕ) → length c.args.self.now.starts ≡ last + 2 → last ≡ c.requires.0
last_is c last count = omega (arith, count, c.requires.1.count)

pub returns-clause-spheres : goal.returns-clause-spheres
returns-clause-spheres c =
    let size = length c.args.around.now.table.now.parents in
    let kids_at = kids_around c.args.around.now.table.now.parents c.args.around.now.way.now in
    λ last count.
    let at = (goal.at.returns-clause-spheres c).After-end_sphere in
    rw (last_is at last count, c.end_sphere.ensures) (spheres_walked c.args.self.now c.args.first c.requires.0 size
    kids_at c.args.unresolved.now c.requires.1 (below at) c.loop-place.self (walks at))

pub returns-clause-places : goal.returns-clause-places
returns-clause-places c =
    let size = length c.args.around.now.table.now.parents in
    let kids_at = kids_around c.args.around.now.table.now.parents c.args.around.now.way.now in
    λ last count others.
    let at = (goal.at.returns-clause-places c).After-end_sphere in
    rw (last_is at last count, c.end_sphere.ensures) (places_walked c.args.self.now c.args.first c.requires.0 size
    kids_at c.args.unresolved.now c.requires.1 (below at) c.loop-place.self (walks at) others)
