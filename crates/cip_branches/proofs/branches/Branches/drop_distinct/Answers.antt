use Rattle.std.proofs.Common.{◌≡◌, ◌≤◌, Bool, List, length, ◌∙◌, sym, ap, arith}
use Rattle.std.specs.Vec.{with_items}
use Rattle.std.proofs.lemmas.List.{with_items_is}
use Rattle.cip_partition.specs.ReservedList.{ReservedList}
use Rattle.cip_branches.specs.Deciding.{Branched, FlagsOpen}
use Rattle.cip_branches.proofs.branches.Branches.drop_distinct.Goals as goal
use Rattle.cip_branches.proofs.branches.Branches.drop_distinct.Goals.{After-as_slice, After-flag_unresolved}

-- there is a flag for each branch, and room for it
opens_long : (c : After-as_slice) → length c.self.inside.next_unresolved.items ≡ length c.as_slice.result.now
opens_long c = c.self.invariant.opens_len ∙ sym (ap (λ (flags : List Bool). length flags) c.as_slice.ensures)

-- the flags that were set, as the column holds them
set_flags : (c : After-flag_unresolved)
    → (with_items c.next_unresolved.inside.items c.flag_unresolved.new.flags).items ≡ c.flag_unresolved.new.flags
set_flags c = with_items_is c.next_unresolved.inside.items c.flag_unresolved.new.flags
    (c.flag_unresolved.auto.flags ∙ c.deref_mut.ensures.len)

flags_long : (c : After-flag_unresolved) → length c.flag_unresolved.new.flags ≡ length c.next_unresolved.inside.items.items
flags_long c = c.flag_unresolved.auto.flags ∙ ap (λ (flags : List Bool). length flags) c.deref_mut.ensures.value

as_wanted : (c : After-flag_unresolved) → length c.flag_unresolved.new.flags ≡ length c.self.inside.unresolved.items
as_wanted c = flags_long c ∙ ap (λ (column : ReservedList Bool). length column.items) c.next_unresolved.view_is
    ∙ c.self.invariant.opens_len

pub flag_unresolved-requires-clause-tops : goal.flag_unresolved-requires-clause-tops
flag_unresolved-requires-clause-tops c =
    rw c.as_slice.ensures c.self.invariant.tops

pub flag_unresolved-requires-clause-len : goal.flag_unresolved-requires-clause-len
flag_unresolved-requires-clause-len c =
    ap (λ (flags : List Bool). length flags) (c.deref_mut.ensures.value ∙ ap (λ (column : ReservedList Bool).
    column.items) c.next_unresolved.view_is) ∙ opens_long (goal.at.flag_unresolved-requires-clause-len c).After-as_slice

pub copy-requires : goal.copy-requires
copy-requires c =
    let at = (goal.at.copy-requires c).After-flag_unresolved in
    let long = ap (λ (flags : List Bool). length flags) (c.as_slice-2.ensures ∙ set_flags at) ∙ flags_long at in
    let fits : length c.next_unresolved.inside.items.items ≤ c.next_unresolved.inside.room = c.next_unresolved.invariant.1 in
    let room = ap (λ (column : ReservedList Bool). column.room) c.next_unresolved.view_is ∙ c.self.invariant.opens_room
    ∙ sym c.self.invariant.wanted_room in
    omega (arith, long, fits, room)

pub invariant_of-next_unresolved : goal.invariant_of-next_unresolved
invariant_of-next_unresolved c =
    let at = (goal.at.invariant_of-next_unresolved c).After-flag_unresolved in
    let fits : length c.next_unresolved.inside.items.items ≤ c.next_unresolved.inside.room = c.next_unresolved.invariant.1 in
    let long = flags_long at in (
      c.next_unresolved.invariant.0,
      rw (set_flags at) (omega (arith, fits, long)),
      c.next_unresolved.invariant.2,
    )

pub invariant_of-self : goal.invariant_of-self
invariant_of-self c =
    let at = (goal.at.invariant_of-self c).After-flag_unresolved in
    let was = c.self.invariant in
    let items = ap (λ (column : ReservedList Bool). column.items) c.copy.ensures ∙ c.as_slice-2.ensures ∙ set_flags at in
    let long = ap (λ (flags : List Bool). length flags) items in
    let same = as_wanted at in
    record {
      wanted_room = ap (λ (column : ReservedList Bool). column.room) c.copy.ensures ∙ was.wanted_room;
      opens_room = ap (λ (column : ReservedList Bool). column.room) c.next_unresolved.view_is ∙ was.opens_room;
      tops = let tops = was.tops in omega (arith, tops, long, same);
      opens_len = ap (λ (flags : List Bool). length flags) (set_flags at) ∙ sym long;
    }

pub returns-clause-chosen : goal.returns-clause-chosen
returns-clause-chosen c =
    let at = (goal.at.returns-clause-chosen c).After-flag_unresolved in
    let flags = c.flag_unresolved.new.flags in
    let items = ap (λ (column : ReservedList Bool). column.items) c.copy.ensures ∙ c.as_slice-2.ensures ∙ set_flags at in
    let open_now : FlagsOpen c.self.inside.spheres.ranked.numbers c.self.inside.unresolved.items flags = record {
      len = as_wanted at;
      flagged = rw (sym c.as_slice.ensures) c.flag_unresolved.ensures.flagged;
      fewer = rw (sym c.as_slice.ensures) c.flag_unresolved.ensures.fewer;
    } in
    rw (items, sym c.self.view_is) open_now

pub returns-clause-others : goal.returns-clause-others
returns-clause-others c = ap (λ (b : Branched). record b { unresolved = c.copy.new.self.items }) c.self.view_is
