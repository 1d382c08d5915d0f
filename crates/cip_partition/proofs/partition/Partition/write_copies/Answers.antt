use Rattle.std.proofs.Common.{ℕ, List, ◌≡◌, ◌<◌, ◌++◌, length, map, slice_index, sym, ap, ◌∙◌, subst, arith}
use Rattle.std.proofs.lemmas.List.{length-map}
use Rattle.cip_partition.specs.Ranked.{Ranked}
use Rattle.cip_partition.specs.ReservedList.{ReservedList}
use Rattle.cip_partition.specs.Twins.{pairs, twice}
use Rattle.cip_partition.proofs.lemmas.TwinLists.{doubles_few}
use Rattle.cip_partition.proofs.lemmas.TwinPlaces.{keep_rows}
use Rattle.cip_partition.proofs.partition.Partition.write_copies.Goals as goal
use Rattle.cip_partition.proofs.partition.Partition.write_copies.Goals.{After-len-count}

count_is : (c : After-len-count) → c.len-count.result ≡ length c.args.from.now.numbers
count_is c = c.len-count.ensures.count ∙ ap (λ (r : Ranked). length r.numbers) c.from.view_is

pub write_pairs-requires-clause-twice : goal.write_pairs-requires-clause-twice
write_pairs-requires-clause-twice c =
    doubles_few (count_is (goal.at.write_pairs-requires-clause-twice c).After-len-count) c.requires.room
    (ap (λ (r : Ranked). r.room) c.self.view_is) c.self.invariant.few

pub write_pairs-requires-clause-below : goal.write_pairs-requires-clause-below
write_pairs-requires-clause-below c =
    let count = count_is (goal.at.write_pairs-requires-clause-below c).After-len-count in
    subst (λ (rows : List ℕ). (k : ℕ) → k < length rows → slice_index rows k < c.len-count.result)
    (sym (c.as_slice.ensures ∙ ap (λ (r : Ranked). r.rows) c.from.view_is))
    (λ k lt. subst (λ n. slice_index c.args.from.now.rows k < n) (sym count) (c.row_count-rows.ensures.below k lt))

pub push_twice-requires-clause-twice : goal.push_twice-requires-clause-twice
push_twice-requires-clause-twice c =
    doubles_few (count_is (goal.at.push_twice-requires-clause-twice c).After-len-count) c.requires.room
    (ap (λ (r : Ranked). r.room) c.self.view_is) c.self.invariant.few

pub push_twice-requires-2-clause-twice : goal.push_twice-requires-2-clause-twice
push_twice-requires-2-clause-twice c =
    doubles_few (count_is (goal.at.push_twice-requires-2-clause-twice c).After-len-count) c.requires.room
    (ap (λ (r : Ranked). r.room) c.self.view_is) c.self.invariant.few

pub push_twice-requires-2-clause-room : goal.push_twice-requires-2-clause-room
push_twice-requires-2-clause-room c =
    let half = λ (ns : List ℕ). map (twice c.len-count.result) ns in
    let first = c.push_twice.ensures
    ∙ ap (λ (r : ReservedList ℕ). record r { items = r.items ++ half c.as_slice-2.result.now }) c.clear.ensures in
    let pushed = ap (λ (r : ReservedList ℕ). length r.items) first
    ∙ length-map c.as_slice-2.result.now (twice c.len-count.result) in
    let room = ap (λ (r : ReservedList ℕ). r.room) first ∙ c.self.invariant.numbers_room in
    let one = ap (λ (ns : List ℕ). length ns) (c.as_slice-2.ensures ∙ ap (λ (r : Ranked). r.numbers) c.from.view_is) in
    let two = ap (λ (ns : List ℕ). length ns) (c.as_slice-3.ensures ∙ ap (λ (r : Ranked). r.numbers) c.from.view_is) in
    let same = ap (λ (r : Ranked). r.room) c.self.view_is in
    let fits = c.requires.room in
    omega (arith, pushed, room, one, two, same, fits)

pub returns-clause-below : goal.returns-clause-below
returns-clause-below c = c.row_count-rows.ensures.below

pub invariant_of-self : goal.invariant_of-self
invariant_of-self c =
    let items = λ (r : ReservedList ℕ). r.items in
    let room = λ (r : ReservedList ℕ). r.room in
    let count = c.len-count.result in
    let one = c.as_slice-2.ensures ∙ ap (λ (r : Ranked). r.numbers) c.from.view_is in
    let two = c.as_slice-3.ensures ∙ ap (λ (r : Ranked). r.numbers) c.from.view_is in
    let half = λ (ns : List ℕ). map (twice count) ns in
    let numbers = c.args.from.now.numbers in
    let first = c.push_twice.ensures
    ∙ ap (λ (r : ReservedList ℕ). record r { items = r.items ++ half c.as_slice-2.result.now }) c.clear.ensures in
    let len = c.len-count.ensures.count ∙ ap (λ (r : Ranked). length r.numbers) c.from.view_is in
    let same = ap (λ (r : Ranked). r.room) c.self.view_is in
    let rows = ap room c.write_pairs.ensures in
    let few = c.self.invariant.few in
    let fits = c.requires.room in
    let rows_fit = c.requires.rows in
    keep_rows _ _ _ count c.args.from.now (omega (arith, rows, few))
    (ap room c.push_twice-2.ensures ∙ ap room first ∙ c.self.invariant.numbers_room ∙ sym rows)
    (c.self.invariant.offsets_room ∙ sym rows) (sym len) (omega (arith, rows, same, fits, rows_fit))
    (λ k lt. subst (λ n. slice_index c.args.from.now.rows k < n) (sym len) (c.row_count-rows.ensures.below k lt))
    (ap items c.write_pairs.ensures ∙ ap (pairs count) (c.as_slice.ensures ∙ ap (λ (r : Ranked). r.rows) c.from.view_is))
    (ap items c.push_twice-2.ensures ∙ ap (λ (r : ReservedList ℕ). r.items ++ half c.as_slice-3.result.now) first
    ∙ ap (λ (ns : List ℕ). half ns ++ half c.as_slice-3.result.now) one
    ∙ ap (λ (ns : List ℕ). half numbers ++ half ns) two)
