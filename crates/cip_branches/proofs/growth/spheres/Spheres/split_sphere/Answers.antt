use Rattle.std.proofs.Common.{arith, ◌≡◌, ◌≤◌, ℕ, Bool, List, true, length, ◌∙◌, sym, ap, subst}
use Rattle.std.specs.Ordering.{int_cmp, on}
use Rattle.std.specs.Vec.{with_items}
use Rattle.std.proofs.lemmas.Cmp.{on_total, int_cmp_total}
use Rattle.std.proofs.lemmas.List.{with_items_is}
use Rattle.cip_branches.specs.SphereColumns.{SphereColumns}
use Rattle.cip_partition.specs.Parting.{FlagClasses, FlagHeads, has_flag}
use Rattle.cip_partition.specs.Keys.{key_of}
use Rattle.cip_partition.specs.ReservedList.{ReservedList}
use Rattle.cip_partition.specs.Rows.{AreClassed}
use Rattle.cip_partition.specs.Stirring.{NoFlags}
use Rattle.cip_partition.proofs.lemmas.PartedSphere.{have_flags, sphere_split}
use Rattle.cip_branches.proofs.lemmas.refined.Flagged.{class_heads, class_cleared}
use Rattle.cip_branches.proofs.growth.spheres.Spheres.split_sphere.Goals as goal
use Rattle.cip_branches.proofs.growth.spheres.Spheres.split_sphere.Goals.{After-flag_classes}

-- the rows and numbers that the sphere has inside
classed : {seen now : SphereColumns} {from to : ℕ} → seen ≡ now
    → AreClassed now.ranked.rows now.ranked.numbers from to → AreClassed seen.ranked.rows seen.ranked.numbers from to
classed view was = rw view was

within : {seen now : SphereColumns} {to : ℕ} → seen ≡ now → to ≤ length now.ranked.rows → to ≤ length seen.ranked.rows
within view was = rw view was

-- what is read of the flags that were set
set_flags : (g : _) (c : After-flag_classes g)
    → (with_items c.flags.inside.items c.flag_classes.new.flags).items ≡ c.flag_classes.new.flags
set_flags g c = with_items_is c.flags.inside.items c.flag_classes.new.flags
    (c.flag_classes.auto.flags ∙ c.deref_mut.ensures.len)

flags_long : (g : _) (c : After-flag_classes g) → length c.flag_classes.new.flags ≡ length c.self.inside.family.place_parents
flags_long g c = c.flag_classes.auto.flags ∙ ap (λ (fs : List Bool). length fs) c.deref_mut.ensures.value
    ∙ ap (λ (column : ReservedList Bool). length column.items) c.flags.view_is ∙ c.self.invariant.flags_len

pub flag_classes-requires-clause-ordered : goal.flag_classes-requires-clause-ordered
flag_classes-requires-clause-ordered g c = c.requires.ordered

pub flag_classes-requires-clause-within : goal.flag_classes-requires-clause-within
flag_classes-requires-clause-within g c = within c.self.view_is c.requires.within

pub flag_classes-requires-clause-flags : goal.flag_classes-requires-clause-flags
flag_classes-requires-clause-flags g c =
    let rows = within c.self.view_is c.requires.within in
    let len = ap (λ (fs : List Bool). length fs) (c.deref_mut.ensures.value ∙ ap (λ (column : ReservedList Bool).
    column.items) c.flags.view_is) in
    omega (arith, rows, c.self.invariant.rows_len, c.self.invariant.flags_len, len)

pub flag_classes-requires-clause-none : goal.flag_classes-requires-clause-none
flag_classes-requires-clause-none g c =
    subst NoFlags (sym (c.deref_mut.ensures.value ∙ ap (λ (column : ReservedList Bool). column.items) c.flags.view_is))
    c.self.invariant.none

pub split_classes-requires-clause-ordered : goal.split_classes-requires-clause-ordered
split_classes-requires-clause-ordered g c = c.requires.ordered

pub split_classes-requires-clause-within : goal.split_classes-requires-clause-within
split_classes-requires-clause-within g c = within c.self.view_is c.requires.within

pub split_classes-requires-clause-flags : goal.split_classes-requires-clause-flags
split_classes-requires-clause-flags g c =
    let at = (goal.at.split_classes-requires-clause-flags g c).After-flag_classes in
    let rows = within c.self.view_is c.requires.within in
    let len = ap (λ (fs : List Bool). length fs) (c.deref.ensures.value ∙ set_flags g at) ∙ flags_long g at in
    omega (arith, rows, c.self.invariant.rows_len, len)

pub split_classes-requires-clause-classed : goal.split_classes-requires-clause-classed
split_classes-requires-clause-classed g c = classed c.self.view_is c.requires.classed

pub split_classes-requires-clause-heads : goal.split_classes-requires-clause-heads
split_classes-requires-clause-heads g c =
    let at = (goal.at.split_classes-requires-clause-heads g c).After-flag_classes in
    let rows = c.self.inside.order.rows in
    let numbers = c.self.inside.order.numbers in
    subst (FlagHeads rows numbers c.args.from c.args.to) (sym (c.deref.ensures.value ∙ set_flags g at))
    (class_heads rows numbers c.args.from c.args.to c.flag_classes.new.flags
    (classed c.self.view_is c.requires.classed) c.flag_classes.ensures)

pub clear_flags-requires-clause-ordered : goal.clear_flags-requires-clause-ordered
clear_flags-requires-clause-ordered g c = c.requires.ordered

pub clear_flags-requires-clause-within : goal.clear_flags-requires-clause-within
clear_flags-requires-clause-within g c =
    let at = (goal.at.clear_flags-requires-clause-within g c).After-flag_classes in
    let rows = within c.self.view_is c.requires.within in
    let len = ap (λ (fs : List Bool). length fs) (c.deref_mut-2.ensures.value ∙ set_flags g at) ∙ flags_long g at in
    omega (arith, rows, c.self.invariant.rows_len, len)

pub invariant_of-flags : goal.invariant_of-flags
invariant_of-flags g c =
    let at = (goal.at.invariant_of-flags g c).After-flag_classes in
    let left = with_items_is (with_items c.flags.inside.items c.flag_classes.new.flags) c.clear_flags.new.flags
    (c.clear_flags.auto.flags ∙ c.deref_mut-2.ensures.len) in
    let fits : length c.flags.inside.items.items ≤ c.flags.inside.room = c.flags.invariant.1 in
    let many = c.clear_flags.auto.flags ∙ ap (λ (fs : List Bool). length fs) (c.deref_mut-2.ensures.value
    ∙ set_flags g at) ∙ c.flag_classes.auto.flags ∙ ap (λ (fs : List Bool). length fs) c.deref_mut.ensures.value in
    (c.flags.invariant.0, rw left (omega (arith, fits, many)), c.flags.invariant.2)

pub invariant_of-self : goal.invariant_of-self
invariant_of-self g c =
    let at = (goal.at.invariant_of-self g c).After-flag_classes in
    let was = c.self.invariant in
    let parted = c.split_classes.ensures.parted in
    let read : c.deref_mut-2.result.now ≡ c.flag_classes.new.flags = c.deref_mut-2.ensures.value ∙ set_flags g at in
    let left : (with_items (with_items c.flags.inside.items c.flag_classes.new.flags) c.clear_flags.new.flags).items
    ≡ c.clear_flags.new.flags = with_items_is (with_items c.flags.inside.items c.flag_classes.new.flags)
    c.clear_flags.new.flags (c.clear_flags.auto.flags ∙ c.deref_mut-2.ensures.len) in
    record {
      few = was.few;
      fits = was.fits;
      ranked_room = c.split_classes.ensures.room ∙ was.ranked_room;
      starts_room = was.starts_room;
      starts_fit = was.starts_fit;
      before_room = was.before_room;
      flags_room = ap (λ (column : ReservedList Bool). column.room) c.flags.view_is ∙ was.flags_room;
      sets_room = was.sets_room;
      rows_len = let len = parted.kept.len in let le = was.rows_len in omega (arith, len, le);
      numbers_len = parted.len ∙ was.numbers_len;
      before_len = was.before_len;
      flags_len = ap (λ (fs : List Bool). length fs) left ∙ c.clear_flags.auto.flags
          ∙ ap (λ (fs : List Bool). length fs) read ∙ flags_long g at;
      sets_len = was.sets_len;
      none = subst NoFlags (sym left) (class_cleared c.self.inside.order.rows c.self.inside.order.numbers c.args.from
          c.args.to c.flag_classes.new.flags c.clear_flags.new.flags c.flag_classes.ensures
          c.clear_flags.ensures.cleared
          (λ row has. subst (λ (fs : List Bool). has_flag fs row ≡ true) read (c.clear_flags.ensures.fewer row has)));
    }

pub returns-clause-split : goal.returns-clause-split
returns-clause-split g c =
    let key = key_of (g.K.Keyed.key c.args.keys.now) c.self.inside.family in
    let rows = c.self.inside.order.rows in
    let numbers = c.self.inside.order.numbers in
    let read = c.deref.ensures.value ∙ with_items_is c.flags.inside.items c.flag_classes.new.flags
    (c.flag_classes.auto.flags ∙ c.deref_mut.ensures.len) in
    let flagged = subst (λ (fs : List Bool). FlagClasses rows numbers c.args.from c.args.to c.args.to fs) (sym read)
    c.flag_classes.ensures in
    rw (sym c.self.view_is)
    (sphere_split (on key int_cmp) c.args.from c.args.to c.deref.result.now rows numbers
    (classed c.self.view_is c.requires.classed)
    (on_total key int_cmp_total) (have_flags rows numbers c.args.from c.args.to c.deref.result.now flagged)
    c.split_classes.new.order.rows c.split_classes.new.order.numbers c.split_classes.ensures.parted)

pub returns-clause-kept : goal.returns-clause-kept
returns-clause-kept g c =
    let parted = c.split_classes.ensures.parted in
    rw (sym c.self.view_is) (record {
      classed = parted.classed;
      there = parted.there;
      back = parted.back;
      kept = parted.kept;
      others = parted.others;
      len = parted.len;
    })

pub returns-clause-others : goal.returns-clause-others
returns-clause-others g c = ap (λ (s : SphereColumns). record s { ranked = c.split_classes.new.order }) c.self.view_is

pub returns-clause-room : goal.returns-clause-room
returns-clause-room g c = c.split_classes.ensures.room ∙ ap (λ (s : SphereColumns). s.ranked.room) c.self.view_is
