use Rattle.std.proofs.Common.{◌≤◌, ℕ, List, length, ◌∙◌, sym, ap, subst, arith}
use Rattle.std.proofs.lemmas.List.{with_items_is}
use Rattle.cip_branches.specs.SphereColumns.{SphereColumns}
use Rattle.cip_branches.specs.Passing.{AreNotedBut}
use Rattle.cip_partition.specs.ReservedList.{ReservedList}
use Rattle.cip_branches.proofs.growth.spheres.Spheres.note_rows.Goals as goal

pub note_places-requires-clause-within : goal.note_places-requires-clause-within
note_places-requires-clause-within c =
    subst (λ (s : SphereColumns). c.args.to ≤ length s.ranked.rows) (sym c.self.view_is) c.requires.within

pub note_places-requires-clause-len : goal.note_places-requires-clause-len
note_places-requires-clause-len c =
    ap (λ (ns : List ℕ). length ns) c.deref_mut.ensures.value
    ∙ ap (λ (column : ReservedList ℕ). length column.items) c.noted.view_is
    ∙ c.self.invariant.before_len ∙ sym c.self.invariant.numbers_len

pub note_places-requires-clause-noted : goal.note_places-requires-clause-noted
note_places-requires-clause-noted c =
    let held = c.deref_mut.ensures.value ∙ ap (λ (column : ReservedList ℕ). column.items) c.noted.view_is in
    subst (λ (ns : List ℕ). AreNotedBut c.self.inside.order.rows c.args.from c.args.to ns c.self.inside.order.numbers)
    (sym held) (subst (λ (s : SphereColumns). AreNotedBut s.ranked.rows c.args.from c.args.to s.before s.ranked.numbers)
    (sym c.self.view_is) c.requires.noted)

pub invariant_of-noted : goal.invariant_of-noted
invariant_of-noted c =
    let set = with_items_is c.noted.inside.items c.note_places.new.before (c.note_places.auto.before
    ∙ c.deref_mut.ensures.len) in
    let fits : length c.noted.inside.items.items ≤ c.noted.inside.room = c.noted.invariant.1 in
    let long = c.note_places.auto.before ∙ ap (λ (ns : List ℕ). length ns) c.deref_mut.ensures.value in (
      c.noted.invariant.0,
      subst (λ (ns : List ℕ). length ns ≤ c.noted.inside.room) (sym set) (omega (arith, fits, long)),
      c.noted.invariant.2,
    )

pub invariant_of-self : goal.invariant_of-self
invariant_of-self c =
    let was = c.self.invariant in
    let set = with_items_is c.noted.inside.items c.note_places.new.before (c.note_places.auto.before
    ∙ c.deref_mut.ensures.len) in
    record {
      few = was.few;
      fits = was.fits;
      ranked_room = was.ranked_room;
      starts_room = was.starts_room;
      starts_fit = was.starts_fit;
      before_room = ap (λ (column : ReservedList ℕ). column.room) c.noted.view_is ∙ was.before_room;
      flags_room = was.flags_room;
      sets_room = was.sets_room;
      rows_len = was.rows_len;
      numbers_len = was.numbers_len;
      before_len = ap (λ (ns : List ℕ). length ns) set ∙ c.note_places.auto.before
          ∙ ap (λ (ns : List ℕ). length ns) c.deref_mut.ensures.value
          ∙ ap (λ (column : ReservedList ℕ). length column.items) c.noted.view_is ∙ was.before_len;
      flags_len = was.flags_len;
      sets_len = was.sets_len;
      none = was.none;
    }

pub returns : goal.returns
returns c =
    let set = with_items_is c.noted.inside.items c.note_places.new.before (c.note_places.auto.before
    ∙ c.deref_mut.ensures.len) in
    rw (set, c.note_places.ensures) (ap (λ (s : SphereColumns). record s { before = s.ranked.numbers }) c.self.view_is)
