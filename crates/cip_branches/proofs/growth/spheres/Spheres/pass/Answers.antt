use Rattle.std.proofs.Common.{◌≡◌, ◌≤◌, ◌+◌, suc, length, slice_index, refl, arith, ◌∙◌, sym, ap, subst}
use Rattle.std.specs.Ordering.{int_cmp, then_cmp, on}
use Rattle.cip_rank.specs.Ranking.{by_number}
use Rattle.cip_partition.specs.Kids.{kids_of}
use Rattle.cip_branches.specs.SphereColumns.{SphereColumns}
use Rattle.cip_partition.specs.Parting.{KeepsSphere}
use Rattle.cip_partition.specs.Keys.{key_of}
use Rattle.cip_branches.specs.Refining.{Refines}
use Rattle.cip_partition.specs.Rows.{IsRow, OrdersPlaces}
use Rattle.cip_branches.specs.Turning.{in_sphere, AreSpheres, IsInnermost, SamePlaces, StandBut}
use Rattle.cip_branches.proofs.lemmas.refined.Kept.{same_after}
use Rattle.cip_branches.proofs.lemmas.refined.Passed.{innermost, noted_after, places, passed, split_spheres, split_steady, tops_stand}
use Rattle.cip_branches.proofs.lemmas.refined.Refinement.{FoundSphere, found_sphere, read_at}
use Rattle.cip_branches.proofs.growth.spheres.Spheres.pass.Goals as goal
use Rattle.cip_branches.proofs.growth.spheres.Spheres.pass.Goals.{After-first_row-to, After-split_sphere, After-note_rows}

-- what the code reads of the starts
from_is : (g : _) (c : After-split_sphere g) → slice_index c.args.self.now.starts (suc c.args.far)
    ≡ c.first_row-from.result
from_is g c = read_at c.args.self.now.starts (c.args.far + 1) (suc c.args.far) c.first_row-from.result
    c.first_row-from.ensures.value (omega arith)

to_is : (g : _) (c : After-split_sphere g) → slice_index c.args.self.now.starts (suc (suc c.args.far))
    ≡ c.first_row-to.result
to_is g c = read_at c.args.self.now.starts (c.args.far + 2) (suc (suc c.args.far)) c.first_row-to.result
    c.first_row-to.ensures.value (omega arith)

sphere : (g : _) (c : After-first_row-to g) →
    let first = c.args.self.now in
    FoundSphere first.ranked.rows first.ranked.numbers c.first_row-from.result c.first_row-to.result
sphere g c =
    let first = c.args.self.now in
    found_sphere (kids_of first.place_tree) first.place_tree.place_parents first.ranked.rows first.starts c.args.last first.ranked.numbers
    c.requires.spheres (suc c.args.far) c.first_row-from.result c.first_row-to.result c.requires.far
    (read_at first.starts (c.args.far + 1) (suc c.args.far) c.first_row-from.result c.first_row-from.ensures.value
    (omega arith))
    (read_at first.starts (c.args.far + 2) (suc (suc c.args.far)) c.first_row-to.result c.first_row-to.ensures.value
    (omega arith))

pub split_sphere-requires-clause-ordered : goal.split_sphere-requires-clause-ordered
split_sphere-requires-clause-ordered g c =
    (sphere g (goal.at.split_sphere-requires-clause-ordered g c).After-first_row-to).ordered

pub split_sphere-requires-clause-within : goal.split_sphere-requires-clause-within
split_sphere-requires-clause-within g c =
    (sphere g (goal.at.split_sphere-requires-clause-within g c).After-first_row-to).within

pub split_sphere-requires-clause-classed : goal.split_sphere-requires-clause-classed
split_sphere-requires-clause-classed g c =
    (sphere g (goal.at.split_sphere-requires-clause-classed g c).After-first_row-to).classed

pub refine_inwards-inner-requires-clause-last : goal.refine_inwards-inner-requires-clause-last
refine_inwards-inner-requires-clause-last g c =
    c.requires.last ∙ ap (λ (s : SphereColumns). length s.starts) (sym c.split_sphere.ensures.others)

pub first_row-first-requires : goal.first_row-first-requires
first_row-first-requires g c =
    let starts = ap (λ (s : SphereColumns). length s.starts) (c.refine_inwards-inner.ensures.others
    ∙ ap (λ (s : SphereColumns). record s { ranked = c.refine_inwards-inner.new.self.ranked }) c.split_sphere.ensures.others) in
    omega (arith, starts, c.refine_inwards-inner.ensures.inner.high, c.requires.far, c.requires.last)

pub note_rows-requires-clause-within : goal.note_rows-requires-clause-within
note_rows-requires-clause-within g c =
    let within = (sphere g (goal.at.note_rows-requires-clause-within g c).After-first_row-to).within in
    omega (arith, within, c.split_sphere.ensures.kept.kept.len, c.refine_inwards-inner.ensures.places.len)

-- the sphere as it is split
kept : (g : _) (c : After-split_sphere g) →
    let first = c.args.self.now in
    let new = c.split_sphere.new.self.ranked in
    KeepsSphere (slice_index first.starts (suc c.args.far)) (slice_index first.starts (suc (suc c.args.far)))
    first.ranked.rows new.rows first.ranked.numbers new.numbers
kept g c = rw (from_is g c, to_is g c) c.split_sphere.ensures.kept

split : (g : _) (c : After-split_sphere g) →
    let first = c.args.self.now in
    OrdersPlaces (IsRow first.ranked.rows (slice_index first.starts (suc c.args.far))
    (slice_index first.starts (suc (suc c.args.far)))) (then_cmp (by_number first.ranked.numbers)
    (on (key_of (g.K.Keyed.key c.args.keys.now) first.place_tree) int_cmp)) c.split_sphere.new.self.ranked.numbers
split g c = rw (from_is g c, to_is g c) c.split_sphere.ensures.split

fits : (g : _) (c : After-split_sphere g) → length c.args.self.now.ranked.rows ≤ c.args.self.now.place_tree.room
fits g c = c.first_row-from.ensures.fits

pub refine_inwards-inner-requires-clause-spheres : goal.refine_inwards-inner-requires-clause-spheres
refine_inwards-inner-requires-clause-spheres g c =
    let at = (goal.at.refine_inwards-inner-requires-clause-spheres g c).After-split_sphere in
    let first = c.args.self.now in
    let new = c.split_sphere.new.self.ranked in
    rw c.split_sphere.ensures.others (split_spheres (kids_of first.place_tree) first.place_tree.place_parents first.ranked.rows first.starts
    c.args.last c.args.far first.place_tree.room c.requires.far first.ranked.numbers first.before c.requires.spheres
    (fits g at) c.requires.noted c.requires.steady new.rows new.numbers (kept g at))

pub refine_inwards-inner-requires-clause-steady : goal.refine_inwards-inner-requires-clause-steady
refine_inwards-inner-requires-clause-steady g c =
    let at = (goal.at.refine_inwards-inner-requires-clause-steady g c).After-split_sphere in
    let first = c.args.self.now in
    let new = c.split_sphere.new.self.ranked in
    rw c.split_sphere.ensures.others (split_steady (kids_of first.place_tree) first.place_tree.place_parents first.ranked.rows first.starts
    c.args.last c.args.far first.place_tree.room c.requires.far first.ranked.numbers first.before c.requires.spheres
    (fits g at) c.requires.noted c.requires.steady new.rows new.numbers (kept g at))

pub note_rows-requires-clause-noted : goal.note_rows-requires-clause-noted
note_rows-requires-clause-noted g c =
    let at = (goal.at.note_rows-requires-clause-noted g c).After-split_sphere in
    let first = c.args.self.now in
    let new = c.split_sphere.new.self.ranked in
    let last = c.refine_inwards-inner.new.self in
    let inner = c.refine_inwards-inner.result in
    let others = c.refine_inwards-inner.ensures.others ∙ ap (λ (s : SphereColumns). record s { ranked = last.ranked })
    c.split_sphere.ensures.others in
    let stand = subst (λ (s : SphereColumns). StandBut new.rows s.starts inner c.args.far new.numbers last.ranked.numbers)
    c.split_sphere.ensures.others c.refine_inwards-inner.ensures.stand in
    let places = subst (λ (s : SphereColumns). SamePlaces new.rows last.ranked.rows s.starts) c.split_sphere.ensures.others
    c.refine_inwards-inner.ensures.places in
    let noted = noted_after (kids_of first.place_tree) first.place_tree.place_parents first.ranked.rows first.starts c.args.last c.args.far
    first.place_tree.room c.requires.far first.ranked.numbers first.before c.requires.spheres (fits g at) c.requires.noted
    c.requires.steady new.rows new.numbers (kept g at) inner
    c.refine_inwards-inner.ensures.inner.high last.ranked.numbers stand last.ranked.rows
    places in
    let inner_is = read_at first.starts inner inner c.first_row-first.result
    (c.first_row-first.ensures.value ∙ ap (λ (s : SphereColumns). slice_index s.starts inner) others) refl in
    rw (ap (λ (s : SphereColumns). s.before) others, sym inner_is, sym (to_is g at)) noted

pub returns-clause-tops : goal.returns-clause-tops
returns-clause-tops g c = λ some.
    let at = (goal.at.returns-clause-tops g c).After-split_sphere in
    let first = c.args.self.now in
    let new = c.split_sphere.new.self.ranked in
    let last = c.refine_inwards-inner.new.self in
    let inner = c.refine_inwards-inner.result in
    let stand = subst (λ (s : SphereColumns). StandBut new.rows s.starts inner c.args.far new.numbers last.ranked.numbers)
    c.split_sphere.ensures.others c.refine_inwards-inner.ensures.stand in
    rw c.note_rows.ensures (tops_stand (kids_of first.place_tree) first.place_tree.place_parents first.ranked.rows first.starts c.args.last
    c.args.far first.place_tree.room c.requires.far first.ranked.numbers first.before c.requires.spheres (fits g at)
    c.requires.noted c.requires.steady new.rows new.numbers (kept g at) inner
    c.refine_inwards-inner.ensures.inner.high last.ranked.numbers stand some)

pub returns-clause-passed : goal.returns-clause-passed
returns-clause-passed g c =
    let at = (goal.at.returns-clause-passed g c).After-split_sphere in
    let first = c.args.self.now in
    let new = c.split_sphere.new.self.ranked in
    let now = c.refine_inwards-inner.new.self.ranked.numbers in
    let refined = subst (λ (s : SphereColumns). Refines (kids_of s.place_tree) (in_sphere new.rows s.starts) c.args.far 0 new.numbers
    now) c.split_sphere.ensures.others c.refine_inwards-inner.ensures.refined in
    let key = key_of (g.K.Keyed.key c.args.keys.now) first.place_tree in
    rw c.note_rows.ensures
    (passed (kids_of first.place_tree) first.place_tree.place_parents first.ranked.rows first.starts c.args.last c.args.far first.place_tree.room
    c.requires.far first.ranked.numbers first.before c.requires.spheres (fits g at) c.requires.noted c.requires.steady
    new.rows new.numbers (kept g at) key now (split g at) refined)

pub returns-clause-places : goal.returns-clause-places
returns-clause-places g c =
    let at = (goal.at.returns-clause-places g c).After-split_sphere in
    let first = c.args.self.now in
    let new = c.split_sphere.new.self.ranked in
    let last = c.refine_inwards-inner.new.self.ranked in
    let refined = subst (λ (s : SphereColumns). SamePlaces new.rows last.rows s.starts) c.split_sphere.ensures.others
    c.refine_inwards-inner.ensures.places in
    rw c.note_rows.ensures
    (same_after first.ranked.rows new.rows last.rows first.starts
    (places (kids_of first.place_tree) first.place_tree.place_parents first.ranked.rows first.starts c.args.last c.args.far first.place_tree.room
    c.requires.far first.ranked.numbers first.before c.requires.spheres (fits g at) c.requires.noted c.requires.steady
    new.rows new.numbers (kept g at)) refined)

pub returns-clause-inner : goal.returns-clause-inner
returns-clause-inner g c =
    let at = (goal.at.returns-clause-inner g c).After-split_sphere in
    let first = c.args.self.now in
    let new = c.split_sphere.new.self.ranked in
    let last = c.refine_inwards-inner.new.self in
    let inner = c.refine_inwards-inner.result in
    let found = subst (λ (s : SphereColumns). IsInnermost s.place_tree.place_parents new.rows s.starts inner c.args.far s.before new.numbers
    last.ranked.numbers) c.split_sphere.ensures.others c.refine_inwards-inner.ensures.inner in
    rw c.note_rows.ensures
    (innermost (kids_of first.place_tree) first.place_tree.place_parents first.ranked.rows first.starts c.args.last c.args.far first.place_tree.room
    c.requires.far first.ranked.numbers first.before c.requires.spheres (fits g at) c.requires.noted c.requires.steady
    new.rows new.numbers (kept g at) inner last.ranked.numbers found)

-- the layers as the rows are noted
noted : (g : _) (c : After-note_rows g) →
    let ranked = c.refine_inwards-inner.new.self.ranked in
    c.note_rows.new.self ≡ record c.args.self.now { ranked = ranked; before = ranked.numbers }
noted g c =
    let ranked = c.refine_inwards-inner.new.self.ranked in
    c.note_rows.ensures ∙ ap (λ (s : SphereColumns). record s { before = ranked.numbers })
    (c.refine_inwards-inner.ensures.others ∙ ap (λ (s : SphereColumns). record s { ranked = ranked })
    c.split_sphere.ensures.others)

pub returns-clause-spheres : goal.returns-clause-spheres
returns-clause-spheres g c =
    let first = c.args.self.now in
    let last = c.refine_inwards-inner.new.self.ranked in
    rw c.note_rows.ensures (subst (λ (s : SphereColumns). AreSpheres (kids_of s.place_tree) s.place_tree.place_parents last.rows
    s.starts c.args.last last.numbers) c.split_sphere.ensures.others c.refine_inwards-inner.ensures.spheres)

pub returns-clause-before : goal.returns-clause-before
returns-clause-before g c =
    ap (λ (s : SphereColumns). s.before) c.note_rows.ensures ∙ sym (ap (λ (s : SphereColumns). s.ranked.numbers) c.note_rows.ensures)

pub returns-clause-others : goal.returns-clause-others
returns-clause-others g c =
    let whole = noted g (goal.at.returns-clause-others g c).After-note_rows in
    subst (λ (s : SphereColumns). c.note_rows.new.self ≡ record c.args.self.now { ranked = s.ranked; before = s.before })
    (sym whole) whole

pub returns-clause-room : goal.returns-clause-room
returns-clause-room g c =
    ap (λ (s : SphereColumns). s.ranked.room) c.note_rows.ensures ∙ c.refine_inwards-inner.ensures.room
    ∙ c.split_sphere.ensures.room
