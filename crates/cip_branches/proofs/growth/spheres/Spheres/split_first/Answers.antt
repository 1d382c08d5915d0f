use Rattle.std.proofs.Common.{◌≡◌, ℕ, List, slice_index, refl, ◌∙◌, sym, ap, subst, arith}
use Rattle.std.specs.Ordering.{int_cmp, then_cmp, on}
use Rattle.cip_rank.specs.Ranking.{by_number}
use Rattle.cip_branches.specs.Following.{AreRanked}
use Rattle.cip_branches.specs.SphereColumns.{SphereColumns}
use Rattle.cip_partition.specs.Kids.{kids_of}
use Rattle.cip_partition.specs.Parting.{KeepsSphere}
use Rattle.cip_partition.specs.Keys.{key_of}
use Rattle.cip_partition.specs.Rows.{IsRow, OrdersPlaces}
use Rattle.cip_branches.specs.Taking.{SplitsFirst}
use Rattle.cip_branches.proofs.lemmas.taken.Kept.{first_splits, first_ranked}
use Rattle.cip_branches.proofs.lemmas.refined.Refinement.{FoundSphere, found_sphere}
use Rattle.cip_branches.proofs.growth.spheres.Spheres.split_first.Goals as goal
use Rattle.cip_branches.proofs.growth.spheres.Spheres.split_first.Goals.{After-first_row-to, After-split_sphere}

-- the sphere as it is split
kept : (g : _) (c : After-split_sphere g) →
    let first = c.args.self.now in
    let new = c.split_sphere.new.self.ranked in
    KeepsSphere (slice_index first.starts 0) (slice_index first.starts 1) first.ranked.rows new.rows
    first.ranked.numbers new.numbers
kept g c = rw (sym c.first_row-from.ensures.value, sym c.first_row-to.ensures.value) c.split_sphere.ensures.kept

split : (g : _) (c : After-split_sphere g) →
    let first = c.args.self.now in
    OrdersPlaces (IsRow first.ranked.rows (slice_index first.starts 0) (slice_index first.starts 1))
    (then_cmp (by_number first.ranked.numbers) (on (key_of (g.K.Keyed.key c.args.keys.now) first.place_tree) int_cmp))
    c.split_sphere.new.self.ranked.numbers
split g c = rw (sym c.first_row-from.ensures.value, sym c.first_row-to.ensures.value) c.split_sphere.ensures.split

sphere : (g : _) (c : After-first_row-to g) →
    let first = c.args.self.now in
    FoundSphere first.ranked.rows first.ranked.numbers c.first_row-from.result c.first_row-to.result
sphere g c =
    let first = c.args.self.now in
    found_sphere (kids_of first.place_tree) first.place_tree.place_parents first.ranked.rows first.starts c.requires.ranked.0 first.ranked.numbers
    c.requires.ranked.1.spheres 0 c.first_row-from.result c.first_row-to.result (omega arith) (sym c.first_row-from.ensures.value)
    (sym c.first_row-to.ensures.value)

pub split_sphere-requires-clause-ordered : goal.split_sphere-requires-clause-ordered
split_sphere-requires-clause-ordered g c =
    (sphere g (goal.at.split_sphere-requires-clause-ordered g c).After-first_row-to).ordered

pub split_sphere-requires-clause-within : goal.split_sphere-requires-clause-within
split_sphere-requires-clause-within g c =
    (sphere g (goal.at.split_sphere-requires-clause-within g c).After-first_row-to).within

pub split_sphere-requires-clause-classed : goal.split_sphere-requires-clause-classed
split_sphere-requires-clause-classed g c =
    (sphere g (goal.at.split_sphere-requires-clause-classed g c).After-first_row-to).classed

pub note_rows-requires-clause-within : goal.note_rows-requires-clause-within
note_rows-requires-clause-within g c =
    let within = (sphere g (goal.at.note_rows-requires-clause-within g c).After-first_row-to).within in
    omega (arith, within, c.split_sphere.ensures.kept.kept.len)

pub note_rows-requires-clause-noted : goal.note_rows-requires-clause-noted
note_rows-requires-clause-noted g c =
    let before : c.split_sphere.new.self.before ≡ c.args.self.now.ranked.numbers =
    ap (λ (s : SphereColumns). s.before) c.split_sphere.ensures.others ∙ c.requires.ranked.1.before in
    let kept = c.split_sphere.ensures.kept in
    record {
      each = λ place none. ap (λ (ns : List ℕ). slice_index ns place) before
          ∙ sym (kept.others place (λ p. none (kept.back place p)));
    }

pub returns-clause-split : goal.returns-clause-split
returns-clause-split g c =
    let at = (goal.at.returns-clause-split g c).After-split_sphere in
    let first = c.args.self.now in
    let keys = g.K.Keyed.key c.args.keys.now in
    let new = c.split_sphere.new.self.ranked in
    subst (SplitsFirst first keys) (sym (c.note_rows.ensures
    ∙ ap (λ (s : SphereColumns). record s { before = new.numbers }) c.split_sphere.ensures.others))
    (first_splits first c.requires.ranked.0 c.requires.ranked.1 new new.numbers refl (kept g at) keys (split g at)
    c.split_sphere.ensures.room)

pub returns-clause-ranked : goal.returns-clause-ranked
returns-clause-ranked g c = λ last ranked.
    let at = (goal.at.returns-clause-ranked g c).After-split_sphere in
    let keys = g.K.Keyed.key c.args.keys.now in
    let new = c.split_sphere.new.self.ranked in
    subst (λ (s : SphereColumns). AreRanked s last) (sym (c.note_rows.ensures
    ∙ ap (λ (s : SphereColumns). record s { before = new.numbers }) c.split_sphere.ensures.others))
    (first_ranked c.args.self.now last ranked new new.numbers refl (kept g at) keys (split g at))
