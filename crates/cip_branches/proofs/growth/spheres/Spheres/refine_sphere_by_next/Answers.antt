use Rattle.std.proofs.Common.{arith, ◌≡◌, ◌≤◌, ℕ, Bool, List, true, false, length, slice_index, ◌∙◌, refl, sym, ap, subst}
use Rattle.std.specs.Vec.{with_items}
use Rattle.std.proofs.lemmas.Bool.{false≢true}
use Rattle.std.proofs.lemmas.List.{with_items_is}
use Rattle.cip_partition.specs.Kids.{kids_of, AreCalm}
use Rattle.cip_branches.specs.SphereColumns.{SphereColumns}
use Rattle.cip_partition.specs.Parting.{FlagHeads, has_flag}
use Rattle.cip_partition.specs.ReservedList.{ReservedList}
use Rattle.cip_partition.specs.Rows.{IsRow, AreClassed}
use Rattle.cip_partition.specs.Stirring.{IsAbove, KnowParents, TieUnlessStirred, NoFlags}
use Rattle.cip_branches.proofs.lemmas.refined.Kept.{kept_itself}
use Rattle.cip_branches.proofs.lemmas.refined.Turned.{Flagged, above_within, flagged, none_above, wider}
use Rattle.cip_branches.proofs.growth.spheres.Spheres.refine_sphere_by_next.Goals as goal
use Rattle.cip_branches.proofs.growth.spheres.Spheres.refine_sphere_by_next.Goals.{After-flag_dirty_parents, After-deref}

-- the rows of the sphere and of the next one, as they are seen inside
classed : {seen now : SphereColumns} {from to : ℕ} → seen ≡ now
    → AreClassed now.ranked.rows now.ranked.numbers from to → AreClassed seen.ranked.rows seen.ranked.numbers from to
classed view was = rw view was

parents : {seen now : SphereColumns} {from to past : ℕ} → seen ≡ now
    → KnowParents (kids_of now.place_tree) now.place_tree.place_parents now.ranked.rows from to past
    → KnowParents (kids_of seen.place_tree) seen.place_tree.place_parents seen.ranked.rows from to past
parents view was = rw view was

-- the flags that were set, where none was set as it began
flagged_here : (c : After-flag_dirty_parents) → Flagged (kids_of c.self.inside.family) c.self.inside.family.place_parents
    c.self.inside.order.rows c.self.inside.order.numbers c.args.from c.args.to c.deref_mut.result.now
    c.flag_dirty_parents.new.flags
flagged_here c =
    let kids = kids_of c.self.inside.family in
    let rows = c.self.inside.order.rows in
    let numbers = c.self.inside.order.numbers in
    let none = subst NoFlags (sym (c.deref_mut.ensures.value ∙ ap (λ (column : ReservedList Bool). column.items)
    c.flags.view_is)) c.self.invariant.none in
    let tie = subst (λ (b : List ℕ). TieUnlessStirred kids b rows numbers c.args.from c.args.to)
    (sym c.as_slice.ensures) (subst (λ (s : SphereColumns). TieUnlessStirred (kids_of s.place_tree) s.before s.ranked.rows
    s.ranked.numbers c.args.from c.args.to) (sym c.self.view_is) c.requires.tie) in
    flagged kids c.self.inside.family.place_parents rows c.as_slice.result.now numbers c.args.from c.args.to c.args.past
    (classed c.self.view_is c.requires.classed) (parents c.self.view_is c.requires.parents) c.deref_mut.result.now
    c.flag_dirty_parents.new.flags c.flag_dirty_parents.ensures.dirty none tie

-- the flags that were set, as the column holds them
set_flags : (c : After-flag_dirty_parents) → (with_items c.flags.inside.items c.flag_dirty_parents.new.flags).items
    ≡ c.flag_dirty_parents.new.flags
set_flags c = with_items_is c.flags.inside.items c.flag_dirty_parents.new.flags
    (c.flag_dirty_parents.auto.flags ∙ c.deref_mut.ensures.len)

-- what is to be looked at, as it is seen inside
above : {seen now : SphereColumns} {before : List ℕ} {to past : ℕ} → before ≡ seen.before → seen ≡ now
    → (number : ℕ) × IsAbove now.place_tree.place_parents now.ranked.rows now.before now.ranked.numbers to past number
    → (number : ℕ) × IsAbove seen.place_tree.place_parents seen.ranked.rows before seen.ranked.numbers to past number
above held view found = rw (held, view) found

seen_above : {seen now : SphereColumns} {before : List ℕ} {to past : ℕ} → before ≡ seen.before → seen ≡ now
    → (number : ℕ) × IsAbove seen.place_tree.place_parents seen.ranked.rows before seen.ranked.numbers to past number
    → (number : ℕ) × IsAbove now.place_tree.place_parents now.ranked.rows now.before now.ranked.numbers to past number
seen_above held view found = rw (sym view, sym held) found

-- the flags that are read are those that were set
read : (c : After-deref) → c.deref.result.now ≡ c.flag_dirty_parents.new.flags
read c = c.deref.ensures.value ∙ with_items_is c.flags.inside.items c.flag_dirty_parents.new.flags
    (c.flag_dirty_parents.auto.flags ∙ c.deref_mut.ensures.len)

within : {seen now : SphereColumns} {past : ℕ} → seen ≡ now → past ≤ length now.ranked.rows → past ≤ length seen.ranked.rows
within view was = rw view was

as_many : (c : After-flag_dirty_parents) → length c.flag_dirty_parents.new.flags ≡ length c.flags.inside.items.items
as_many c = c.flag_dirty_parents.auto.flags ∙ ap (λ (fs : List Bool). length fs) c.deref_mut.ensures.value

flags_long : (c : After-flag_dirty_parents) → length c.flag_dirty_parents.new.flags ≡ length c.self.inside.family.place_parents
flags_long c = as_many c
    ∙ ap (λ (column : ReservedList Bool). length column.items) c.flags.view_is ∙ c.self.invariant.flags_len

pub flag_dirty_parents-requires-clause-ordered : goal.flag_dirty_parents-requires-clause-ordered
flag_dirty_parents-requires-clause-ordered c = c.requires.behind

pub flag_dirty_parents-requires-clause-within : goal.flag_dirty_parents-requires-clause-within
flag_dirty_parents-requires-clause-within c = within c.self.view_is c.requires.within

pub flag_dirty_parents-requires-clause-family : goal.flag_dirty_parents-requires-clause-family
flag_dirty_parents-requires-clause-family c = sym c.self.invariant.numbers_len

pub flag_dirty_parents-requires-clause-before : goal.flag_dirty_parents-requires-clause-before
flag_dirty_parents-requires-clause-before c =
    ap (λ (ns : List ℕ). length ns) c.as_slice.ensures ∙ c.self.invariant.before_len ∙ sym c.self.invariant.numbers_len

pub flag_dirty_parents-requires-clause-parents : goal.flag_dirty_parents-requires-clause-parents
flag_dirty_parents-requires-clause-parents c =
    let place_parents = c.self.inside.family.place_parents in
    let rows = c.self.inside.order.rows in
    let inside = within c.self.view_is c.requires.within in
    λ k low high. wider rows c.args.from c.args.to (length rows)
    (let behind = c.requires.behind in omega (arith, behind, inside)) (slice_index place_parents (slice_index rows k))
    ((parents c.self.view_is c.requires.parents).parent_place k low high)

pub flag_dirty_parents-requires-clause-above : goal.flag_dirty_parents-requires-clause-above
flag_dirty_parents-requires-clause-above c =
    above_within (kids_of c.self.inside.family) c.self.inside.family.place_parents c.self.inside.order.rows
    c.as_slice.result.now c.self.inside.order.numbers c.args.from c.args.to c.args.past
    (classed c.self.view_is c.requires.classed) (parents c.self.view_is c.requires.parents)

pub flag_dirty_parents-requires-clause-flags : goal.flag_dirty_parents-requires-clause-flags
flag_dirty_parents-requires-clause-flags c =
    let inside = within c.self.view_is c.requires.within in
    let len = ap (λ (fs : List Bool). length fs) (c.deref_mut.ensures.value ∙ ap (λ (column : ReservedList Bool).
    column.items) c.flags.view_is) in
    omega (arith, inside, c.requires.behind, c.self.invariant.rows_len, c.self.invariant.flags_len, len)

pub returns-else-flag_dirty_parents-clause-ordered : goal.returns-else-flag_dirty_parents-clause-ordered
returns-else-flag_dirty_parents-clause-ordered c =
    let at = (goal.at.returns-else-flag_dirty_parents-clause-ordered c).After-flag_dirty_parents in
    rw (sym c.self.view_is)
    ((flagged_here at).stands (c.flag_dirty_parents.ensures.none c.if-flag_dirty_parents.false))

-- where nothing is looked at, no flag was set
still : (c : After-flag_dirty_parents) → c.flag_dirty_parents.result ≡ false → c.flag_dirty_parents.new.flags ≡ c.self.inside.flags.items
still c not = c.flag_dirty_parents.ensures.none not ∙ c.deref_mut.ensures.value
    ∙ ap (λ (column : ReservedList Bool). column.items) c.flags.view_is

pub returns-else-flag_dirty_parents-clause-looked : goal.returns-else-flag_dirty_parents-clause-looked
returns-else-flag_dirty_parents-clause-looked c =
    let none = subst NoFlags (sym (c.deref_mut.ensures.value ∙ ap (λ (column : ReservedList Bool). column.items)
    c.flags.view_is)) c.self.invariant.none in (
      λ is. absurd (false≢true is),
      λ found. absurd (none_above c.self.inside.family.place_parents c.self.inside.order.rows c.as_slice.result.now
          c.self.inside.order.numbers c.args.to c.args.past c.deref_mut.result.now c.flag_dirty_parents.new.flags
          c.flag_dirty_parents.ensures.dirty none (c.flag_dirty_parents.ensures.none c.if-flag_dirty_parents.false)
          (above c.as_slice.ensures c.self.view_is found)),
    )

pub returns-else-flag_dirty_parents-clause-kept : goal.returns-else-flag_dirty_parents-clause-kept
returns-else-flag_dirty_parents-clause-kept c =
    rw (sym c.self.view_is) (kept_itself c.args.from c.args.to c.self.inside.order.rows c.self.inside.order.numbers
    (classed c.self.view_is c.requires.classed))

pub returns-else-flag_dirty_parents-clause-room : goal.returns-else-flag_dirty_parents-clause-room
returns-else-flag_dirty_parents-clause-room c = ap (λ (s : SphereColumns). s.ranked.room) c.self.view_is

pub invariant_of-flags-else-flag_dirty_parents : goal.invariant_of-flags-else-flag_dirty_parents
invariant_of-flags-else-flag_dirty_parents c =
    let at = (goal.at.invariant_of-flags-else-flag_dirty_parents c).After-flag_dirty_parents in
    let fits : length c.flags.inside.items.items ≤ c.flags.inside.room = c.flags.invariant.1 in
    let many = as_many at in (c.flags.invariant.0, rw (set_flags at) (omega (arith, fits, many)), c.flags.invariant.2)

pub invariant_of-self-else-flag_dirty_parents : goal.invariant_of-self-else-flag_dirty_parents
invariant_of-self-else-flag_dirty_parents c =
    let at = (goal.at.invariant_of-self-else-flag_dirty_parents c).After-flag_dirty_parents in
    let was = c.self.invariant in
    let same = set_flags at ∙ still at c.if-flag_dirty_parents.false in
    record {
      few = was.few;
      fits = was.fits;
      ranked_room = was.ranked_room;
      starts_room = was.starts_room;
      starts_fit = was.starts_fit;
      before_room = was.before_room;
      flags_room = ap (λ (column : ReservedList Bool). column.room) c.flags.view_is ∙ was.flags_room;
      sets_room = was.sets_room;
      rows_len = was.rows_len;
      numbers_len = was.numbers_len;
      before_len = was.before_len;
      flags_len = ap (λ (fs : List Bool). length fs) same ∙ was.flags_len;
      sets_len = was.sets_len;
      none = subst NoFlags (sym same) was.none;
    }

pub refine_sphere-requires-clause-ordered : goal.refine_sphere-requires-clause-ordered
refine_sphere-requires-clause-ordered c = c.requires.ordered

pub refine_sphere-requires-clause-within : goal.refine_sphere-requires-clause-within
refine_sphere-requires-clause-within c =
    let rows = within c.self.view_is c.requires.within in
    omega (arith, rows, c.requires.behind)

pub refine_sphere-requires-clause-flags : goal.refine_sphere-requires-clause-flags
refine_sphere-requires-clause-flags c =
    let at = goal.at.refine_sphere-requires-clause-flags c in
    let rows = within c.self.view_is c.requires.within in
    let len = ap (λ (fs : List Bool). length fs) (read at.After-deref) ∙ flags_long at.After-flag_dirty_parents in
    omega (arith, rows, c.requires.behind, c.self.invariant.rows_len, len)

pub refine_sphere-requires-clause-family : goal.refine_sphere-requires-clause-family
refine_sphere-requires-clause-family c = sym c.self.invariant.numbers_len

pub refine_sphere-requires-clause-sets : goal.refine_sphere-requires-clause-sets
refine_sphere-requires-clause-sets c =
    ap (λ (ns : List ℕ). length ns) c.deref_mut-then-flag_dirty_parents.ensures.value
    ∙ ap (λ (column : ReservedList ℕ). length column.items) c.sets.view_is
    ∙ c.self.invariant.sets_len ∙ sym c.self.invariant.numbers_len

pub refine_sphere-requires-clause-classed : goal.refine_sphere-requires-clause-classed
refine_sphere-requires-clause-classed c = classed c.self.view_is c.requires.classed

pub refine_sphere-requires-clause-known : goal.refine_sphere-requires-clause-known
refine_sphere-requires-clause-known c =
    (flagged_here (goal.at.refine_sphere-requires-clause-known c).After-flag_dirty_parents).known

pub refine_sphere-requires-clause-heads : goal.refine_sphere-requires-clause-heads
refine_sphere-requires-clause-heads c =
    let at = goal.at.refine_sphere-requires-clause-heads c in
    subst (FlagHeads c.self.inside.order.rows c.self.inside.order.numbers c.args.from c.args.to)
    (sym (read at.After-deref)) (flagged_here at.After-flag_dirty_parents).heads

pub refine_sphere-requires-clause-calm : goal.refine_sphere-requires-clause-calm
refine_sphere-requires-clause-calm c =
    let at = goal.at.refine_sphere-requires-clause-calm c in
    subst (λ (fs : List Bool). AreCalm (kids_of c.self.inside.family)
    (IsRow c.self.inside.order.rows c.args.from c.args.to) (λ number. has_flag fs number ≡ false)
    c.self.inside.order.numbers) (sym (read at.After-deref)) (flagged_here at.After-flag_dirty_parents).calm

pub invariant_of-flags : goal.invariant_of-flags
invariant_of-flags c =
    let at = (goal.at.invariant_of-flags c).After-flag_dirty_parents in
    let read = c.deref_mut-then-flag_dirty_parents-2.ensures.value ∙ set_flags at in
    let left = with_items_is (with_items c.flags.inside.items c.flag_dirty_parents.new.flags) c.clear_flags.new.flags
    (c.clear_flags.auto.flags ∙ c.deref_mut-then-flag_dirty_parents-2.ensures.len) in
    let fits : length c.flags.inside.items.items ≤ c.flags.inside.room = c.flags.invariant.1 in
    let many = c.clear_flags.auto.flags ∙ ap (λ (fs : List Bool). length fs) read ∙ as_many at in
    (c.flags.invariant.0, rw left (omega (arith, fits, many)), c.flags.invariant.2)

pub invariant_of-sets : goal.invariant_of-sets
invariant_of-sets c =
    let sets = with_items_is c.sets.inside.items c.refine_sphere.new.sets
    (c.refine_sphere.auto.sets ∙ c.deref_mut-then-flag_dirty_parents.ensures.len) in
    let fits : length c.sets.inside.items.items ≤ c.sets.inside.room = c.sets.invariant.1 in
    let many = c.refine_sphere.auto.sets ∙ ap (λ (ns : List ℕ). length ns) c.deref_mut-then-flag_dirty_parents.ensures.value in
    (c.sets.invariant.0, rw sets (omega (arith, fits, many)), c.sets.invariant.2)

pub invariant_of-self : goal.invariant_of-self
invariant_of-self c =
    let was = c.self.invariant in
    let kept = c.refine_sphere.ensures.kept in
    let read : c.deref_mut-then-flag_dirty_parents-2.result.now ≡ c.flag_dirty_parents.new.flags = c.deref_mut-then-flag_dirty_parents-2.ensures.value
    ∙ with_items_is c.flags.inside.items
    c.flag_dirty_parents.new.flags (c.flag_dirty_parents.auto.flags ∙ c.deref_mut.ensures.len) in
    let left : (with_items (with_items c.flags.inside.items c.flag_dirty_parents.new.flags) c.clear_flags.new.flags).items
    ≡ c.clear_flags.new.flags = with_items_is (with_items c.flags.inside.items c.flag_dirty_parents.new.flags)
    c.clear_flags.new.flags (c.clear_flags.auto.flags ∙ c.deref_mut-then-flag_dirty_parents-2.ensures.len) in
    let sets : (with_items c.sets.inside.items c.refine_sphere.new.sets).items ≡ c.refine_sphere.new.sets =
    with_items_is c.sets.inside.items c.refine_sphere.new.sets
    (c.refine_sphere.auto.sets ∙ c.deref_mut-then-flag_dirty_parents.ensures.len) in
    record {
      few = was.few;
      fits = was.fits;
      ranked_room = c.refine_sphere.ensures.room ∙ was.ranked_room;
      starts_room = was.starts_room;
      starts_fit = was.starts_fit;
      before_room = was.before_room;
      flags_room = ap (λ (column : ReservedList Bool). column.room) c.flags.view_is ∙ was.flags_room;
      sets_room = ap (λ (column : ReservedList ℕ). column.room) c.sets.view_is ∙ was.sets_room;
      rows_len = let len = kept.kept.len in let le = was.rows_len in omega (arith, len, le);
      numbers_len = kept.len ∙ was.numbers_len;
      before_len = was.before_len;
      flags_len = ap (λ (fs : List Bool). length fs) left ∙ c.clear_flags.auto.flags
          ∙ ap (λ (fs : List Bool). length fs)
          read ∙ c.flag_dirty_parents.auto.flags ∙ ap (λ (fs : List Bool). length fs) c.deref_mut.ensures.value
          ∙ ap (λ (column : ReservedList Bool). length column.items) c.flags.view_is ∙ was.flags_len;
      sets_len = ap (λ (ns : List ℕ). length ns) sets ∙ c.refine_sphere.auto.sets ∙ ap (λ (ns : List ℕ). length ns)
          c.deref_mut-then-flag_dirty_parents.ensures.value ∙ ap (λ (column : ReservedList ℕ). length column.items) c.sets.view_is
          ∙ was.sets_len;
      none = subst NoFlags (sym left) ((flagged_here (goal.at.invariant_of-self c).After-flag_dirty_parents).cleared
          c.clear_flags.new.flags c.clear_flags.ensures.cleared
          (λ row has. subst (λ (fs : List Bool). has_flag fs row ≡ true) read (c.clear_flags.ensures.fewer row has)));
    }

pub returns-then-flag_dirty_parents-clause-ordered : goal.returns-then-flag_dirty_parents-clause-ordered
returns-then-flag_dirty_parents-clause-ordered c =
    rw (sym c.self.view_is) c.refine_sphere.ensures.ordered

pub returns-then-flag_dirty_parents-clause-looked : goal.returns-then-flag_dirty_parents-clause-looked
returns-then-flag_dirty_parents-clause-looked c = (
  λ is. seen_above c.as_slice.ensures c.self.view_is (c.flag_dirty_parents.ensures.some c.if-flag_dirty_parents.true),
  λ found. refl,
)

pub returns-then-flag_dirty_parents-clause-still : goal.returns-then-flag_dirty_parents-clause-still
returns-then-flag_dirty_parents-clause-still c = λ not. absurd (false≢true (sym not))

pub clear_flags-requires-clause-ordered : goal.clear_flags-requires-clause-ordered
clear_flags-requires-clause-ordered c = c.requires.ordered

pub clear_flags-requires-clause-within : goal.clear_flags-requires-clause-within
clear_flags-requires-clause-within c =
    let at = (goal.at.clear_flags-requires-clause-within c).After-flag_dirty_parents in
    let rows = within c.self.view_is c.requires.within in
    let len = ap (λ (fs : List Bool). length fs) (c.deref_mut-then-flag_dirty_parents-2.ensures.value ∙ with_items_is c.flags.inside.items
    c.flag_dirty_parents.new.flags (c.flag_dirty_parents.auto.flags ∙ c.deref_mut.ensures.len)) ∙ flags_long at in
    omega (arith, rows, c.requires.behind, c.self.invariant.rows_len, len)

pub returns-then-flag_dirty_parents-clause-kept : goal.returns-then-flag_dirty_parents-clause-kept
returns-then-flag_dirty_parents-clause-kept c =
    rw (sym c.self.view_is) c.refine_sphere.ensures.kept

pub returns-then-flag_dirty_parents-clause-others : goal.returns-then-flag_dirty_parents-clause-others
returns-then-flag_dirty_parents-clause-others c = ap (λ (s : SphereColumns). record s { ranked = c.refine_sphere.new.order }) c.self.view_is

pub returns-then-flag_dirty_parents-clause-room : goal.returns-then-flag_dirty_parents-clause-room
returns-then-flag_dirty_parents-clause-room c = c.refine_sphere.ensures.room ∙ ap (λ (s : SphereColumns). s.ranked.room) c.self.view_is
