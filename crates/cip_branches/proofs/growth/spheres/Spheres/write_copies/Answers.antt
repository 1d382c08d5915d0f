use Rattle.std.proofs.Common.{◌≡◌, ◌<◌, ◌≤◌, ◌+◌, ℕ, Bool, List, length, take, slice_index, ◌∙◌, sym, ap, subst, arith}
use Rattle.cip_partition.specs.PlaceTree.{IsFamily}
use Rattle.cip_branches.specs.SphereColumns.{SphereColumns}
use Rattle.cip_partition.specs.ReservedList.{ReservedList}
use Rattle.cip_partition.specs.Twins.{twin_kin, twin_ranked}
use Rattle.std.proofs.lemmas.List.{length-take-le}
use Rattle.cip_partition.specs.Ranked.{Ranked}
use Rattle.cip_branches.proofs.lemmas.doubled.Columns.{keep_columns, twin_numbers_long}
use Rattle.cip_branches.proofs.growth.spheres.Spheres.write_copies.Goals as goal
use Rattle.cip_branches.proofs.growth.spheres.Spheres.write_copies.Goals.{After-as_slice}

-- what is asked about the columns of the other ones is known of what is inside
pub write_copies-requires-2-clause-room : goal.write_copies-requires-2-clause-room
write_copies-requires-2-clause-room c =
    let place_parents = ap (λ (l : SphereColumns). length l.place_tree.place_parents) c.from.view_is in
    let room = ap (λ (l : SphereColumns). l.place_tree.room) c.self.view_is in
    omega (arith, place_parents, room, c.requires.room, c.from.invariant.numbers_len, c.self.invariant.ranked_room)

pub copy-requires : goal.copy-requires
copy-requires c =
    let place_parents = ap (λ (l : SphereColumns). length l.place_tree.place_parents) c.from.view_is in
    let room = ap (λ (l : SphereColumns). l.place_tree.room) c.self.view_is in
    let twins = ap (λ (ns : List ℕ). length ns) c.numbers.ensures
    ∙ ap (λ (r : Ranked). length r.numbers) c.write_copies-2.ensures.twins
    ∙ twin_numbers_long c.self.inside.order.room (length c.from.inside.order.numbers) c.from.inside.order in
    omega (arith, place_parents, room, twins, c.requires.room, c.from.invariant.numbers_len, c.self.invariant.before_room)

pub overflow_add-count : goal.overflow_add-count
overflow_add-count c =
    let room = ap (λ (l : SphereColumns). l.place_tree.room) c.self.view_is in
    omega (arith, room, c.requires.room, c.len-count.ensures.count, c.self.invariant.few)

pub fill-requires : goal.fill-requires
fill-requires c =
    let room = ap (λ (l : SphereColumns). l.place_tree.room) c.self.view_is in
    omega (arith, room, c.requires.room, c.len-count.ensures.count, c.self.invariant.flags_room)

pub overflow_add-count-2 : goal.overflow_add-count-2
overflow_add-count-2 c =
    let room = ap (λ (l : SphereColumns). l.place_tree.room) c.self.view_is in
    omega (arith, room, c.requires.room, c.len-count.ensures.count, c.self.invariant.few)

pub fill-requires-2 : goal.fill-requires-2
fill-requires-2 c =
    let room = ap (λ (l : SphereColumns). l.place_tree.room) c.self.view_is in
    omega (arith, room, c.requires.room, c.len-count.ensures.count, c.self.invariant.sets_room)

-- the starts that are kept are as many as is asked
as_many : (c : After-as_slice) → length (take (c.args.kept + 1) c.as_slice.result.now) ≡ c.args.kept + 1
as_many c =
    let starts = ap (λ (ns : List ℕ). length ns) (c.as_slice.ensures ∙ ap (λ (l : SphereColumns). l.starts) c.from.view_is) in
    length-take-le (c.args.kept + 1) c.as_slice.result.now (omega (arith, starts, c.requires.kept))

pub slice_bounds-starts-end : goal.slice_bounds-starts-end
slice_bounds-starts-end c = sym (as_many (goal.at.slice_bounds-starts-end c).After-as_slice)

pub write_starts-requires-clause-room : goal.write_starts-requires-clause-room
write_starts-requires-clause-room c =
    let many = as_many (goal.at.write_starts-requires-clause-room c).After-as_slice in
    let room = ap (λ (l : SphereColumns). l.place_tree.room) c.self.view_is in
    omega (arith, many, room, c.requires.room, c.requires.some, c.requires.few, c.self.invariant.starts_room)

pub write_starts-requires-clause-twice : goal.write_starts-requires-clause-twice
write_starts-requires-clause-twice c =
    let room = ap (λ (l : SphereColumns). l.place_tree.room) c.self.view_is in
    omega (arith, room, c.requires.room, c.len-count.ensures.count, c.self.invariant.few)

pub write_starts-requires-clause-rows : goal.write_starts-requires-clause-rows
write_starts-requires-clause-rows c =
    let place_parents = ap (λ (l : SphereColumns). length l.place_tree.place_parents) c.from.view_is in
    omega (arith, place_parents, c.row_count-rows.ensures.count, c.len-count.ensures.count, c.from.invariant.rows_len)

pub returns-clause-place_tree : goal.returns-clause-place_tree
returns-clause-place_tree c =
    c.write_copies.ensures.twins ∙ ap (λ (l : SphereColumns). twin_kin l.place_tree.room c.from.inside.family) c.self.view_is
    ∙ ap (λ (l : SphereColumns). twin_kin c.args.self.now.place_tree.room l.place_tree) c.from.view_is

pub returns-clause-ranked : goal.returns-clause-ranked
returns-clause-ranked c =
    let from = c.from.inside.order in
    let room = c.args.self.now.place_tree.room in
    c.write_copies-2.ensures.twins
    ∙ ap (λ n. twin_ranked n (length from.numbers) from)
    (c.self.invariant.ranked_room ∙ ap (λ (l : SphereColumns). l.place_tree.room) c.self.view_is)
    ∙ ap (λ n. twin_ranked room n from) c.from.invariant.numbers_len
    ∙ ap (λ (l : SphereColumns). twin_ranked room (length l.place_tree.place_parents) l.ranked) c.from.view_is

pub returns-clause-before : goal.returns-clause-before
returns-clause-before c = ap (λ (r : ReservedList ℕ). r.items) c.copy.ensures ∙ c.numbers.ensures

pub returns-clause-family : goal.returns-clause-family
returns-clause-family c = subst (λ (l : SphereColumns). IsFamily l.place_tree) c.from.view_is c.write_copies.ensures.family

pub returns-clause-rows_len : goal.returns-clause-rows_len
returns-clause-rows_len c =
    subst (λ (l : SphereColumns). length l.ranked.rows ≤ length l.place_tree.place_parents) c.from.view_is c.from.invariant.rows_len

pub returns-clause-numbers_len : goal.returns-clause-numbers_len
returns-clause-numbers_len c =
    subst (λ (l : SphereColumns). length l.ranked.numbers ≡ length l.place_tree.place_parents) c.from.view_is c.from.invariant.numbers_len

pub returns-clause-below : goal.returns-clause-below
returns-clause-below c =
    subst (λ (l : SphereColumns). (k : ℕ) → k < length l.ranked.rows → slice_index l.ranked.rows k < length l.place_tree.place_parents)
    c.from.view_is (λ k lt. subst (λ n. slice_index c.from.inside.order.rows k < n) c.from.invariant.numbers_len
    (c.write_copies-2.ensures.below k lt))

pub invariant_of-self : goal.invariant_of-self
invariant_of-self c =
    let items = λ (r : ReservedList ℕ). r.items in
    let room = λ (r : ReservedList ℕ). r.room in
    let is = c.self.invariant in
    let was = c.from.invariant in
    let place_parents = c.len-count.ensures.count ∙ sym (ap (λ (l : SphereColumns). length l.place_tree.place_parents) c.from.view_is) in
    let ups_room = ap (λ (l : SphereColumns). l.place_tree.room) c.self.view_is in
    let fits = c.requires.room in
    let count_is = c.len-count.ensures.count in
    let some = c.requires.some in
    keep_columns _ _ _ _ _ _ c.self.inside.family.room c.len-count.result c.from.inside.family c.from.inside.order
    c.write_copies.ensures.twins
    (c.write_copies-2.ensures.twins
    ∙ ap (λ n. twin_ranked n (length c.from.inside.order.numbers) c.from.inside.order) is.ranked_room)
    (omega (arith, ups_room, fits, count_is)) (sym place_parents) (was.numbers_len ∙ sym place_parents) (omega (arith, was.rows_len, place_parents))
    is.few (ap room c.write_starts.ensures ∙ is.starts_room) _ _ _ (omega (arith, ups_room, fits, some, c.requires.few))
    (ap items c.write_starts.ensures) (ap room c.copy.ensures ∙ is.before_room)
    (ap (λ (r : ReservedList Bool). r.room) c.fill.ensures ∙ is.flags_room) (ap room c.fill-2.ensures ∙ is.sets_room)
    (ap items c.copy.ensures ∙ c.numbers.ensures) (ap (λ (r : ReservedList Bool). r.items) c.fill.ensures)
    (ap items c.fill-2.ensures)
