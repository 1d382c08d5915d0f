use Rattle.std.proofs.Common.{◌≡◌, length, refl, ◌∙◌, ap, subst}
use Rattle.std.specs.Ordering.{int_cmp, then_cmp, on}
use Rattle.cip_rank.specs.Ranking.{by_number}
use Rattle.cip_branches.specs.SphereColumns.{SphereColumns, begun_with, cleared, with_sphere}
use Rattle.cip_partition.specs.Parting.{KeepsSphere}
use Rattle.cip_partition.specs.Keys.{key_of}
use Rattle.cip_partition.specs.Rows.{IsRow, OrdersPlaces}
use Rattle.cip_branches.proofs.lemmas.walked.First.{begun_classed, begun_keyed, first_begins, first_noted, first_ranked, first_places, tops_room}
use Rattle.cip_branches.proofs.growth.spheres.Spheres.begin.Goals as goal
use Rattle.cip_branches.proofs.growth.spheres.Spheres.begin.Goals.{After-split_sphere, After-note_rows}

count_is : (g : _) (c : After-split_sphere g) → c.row_count-count.result
    ≡ length (begun_with c.args.tops.now c.args.self.now).ranked.rows
count_is g c = c.row_count-count.ensures.count
    ∙ ap (λ (s : SphereColumns). length s.ranked.rows) (c.self.view_is ∙ c.start.ensures)

kept : (g : _) (c : After-split_sphere g) →
    let begun = begun_with c.args.tops.now c.args.self.now in
    let ranked = c.split_sphere.new.self.ranked in
    KeepsSphere 0 (length begun.ranked.rows) begun.ranked.rows ranked.rows begun.ranked.numbers ranked.numbers
kept g c =
    let begun = begun_with c.args.tops.now c.args.self.now in
    let ranked = c.split_sphere.new.self.ranked in
    subst (λ n. KeepsSphere 0 n begun.ranked.rows ranked.rows begun.ranked.numbers ranked.numbers)
    (count_is g c)
    (subst (λ (s : SphereColumns). KeepsSphere 0 c.row_count-count.result s.ranked.rows ranked.rows s.ranked.numbers
    ranked.numbers) c.start.ensures c.split_sphere.ensures.kept)

split : (g : _) (c : After-split_sphere g) →
    let begun = begun_with c.args.tops.now c.args.self.now in
    OrdersPlaces (IsRow begun.ranked.rows 0 (length begun.ranked.rows)) (then_cmp (by_number begun.ranked.numbers)
    (on (key_of (g.K.Keyed.key c.args.keys.now) begun.place_tree) int_cmp)) c.split_sphere.new.self.ranked.numbers
split g c =
    let begun = begun_with c.args.tops.now c.args.self.now in
    let numbers = c.split_sphere.new.self.ranked.numbers in
    subst (λ n. OrdersPlaces (IsRow begun.ranked.rows 0 n) (then_cmp (by_number begun.ranked.numbers)
    (on (key_of (g.K.Keyed.key c.args.keys.now) begun.place_tree) int_cmp)) numbers) (count_is g c)
    (subst (λ (s : SphereColumns). OrdersPlaces (IsRow s.ranked.rows 0 c.row_count-count.result)
    (then_cmp (by_number s.ranked.numbers) (on (key_of (g.K.Keyed.key c.args.keys.now) s.place_tree) int_cmp)) numbers)
    c.start.ensures c.split_sphere.ensures.split)

now : (g : _) (c : After-note_rows g) → c.note_rows.new.self ≡ record (begun_with c.args.tops.now c.args.self.now) {
  ranked = c.split_sphere.new.self.ranked;
  before = c.split_sphere.new.self.ranked.numbers;
}
now g c = c.note_rows.ensures
    ∙ ap (λ (s : SphereColumns). record s { before = c.split_sphere.new.self.ranked.numbers }) (c.split_sphere.ensures.others
    ∙ ap (λ (s : SphereColumns). record s { ranked = c.split_sphere.new.self.ranked }) c.start.ensures)

pub split_sphere-requires-clause-classed : goal.split_sphere-requires-clause-classed
split_sphere-requires-clause-classed g c =
    let begun = begun_with c.args.tops.now c.args.self.now in
    let count : c.row_count-count.result ≡ length begun.ranked.rows = c.row_count-count.ensures.count
    ∙ ap (λ (s : SphereColumns). length s.ranked.rows) (c.self.view_is ∙ c.start.ensures) in
    rw (c.start.ensures, count) (begun_classed c.args.self.now c.args.tops.now)

pub split_sphere-requires-clause-keyed : goal.split_sphere-requires-clause-keyed
split_sphere-requires-clause-keyed g c =
    rw c.start.ensures
    (begun_keyed c.args.self.now c.args.tops.now (g.K.Keyed.nodes c.args.keys.now) c.requires.keyed)

pub note_rows-requires-clause-noted : goal.note_rows-requires-clause-noted
note_rows-requires-clause-noted g c =
    let at = (goal.at.note_rows-requires-clause-noted g c).After-split_sphere in
    let begun = begun_with c.args.tops.now c.args.self.now in
    let ranked = c.split_sphere.new.self.ranked in
    let before = ap (λ (s : SphereColumns). s.before) (c.split_sphere.ensures.others
    ∙ ap (λ (s : SphereColumns). record s { ranked = ranked }) c.start.ensures) in
    rw (count_is g at, before) (first_noted c.args.self.now c.args.tops.now ranked (kept g at))

pub returns-clause-begun : goal.returns-clause-begun
returns-clause-begun g c =
    let at = (goal.at.returns-clause-begun g c).After-split_sphere in
    let noted = (goal.at.returns-clause-begun g c).After-note_rows in
    let tops = c.args.tops.now in
    let old = c.args.self.now in
    let ranked = c.split_sphere.new.self.ranked in
    rw (now g noted)
    (first_begins old tops (key_of (g.K.Keyed.key c.args.keys.now) (begun_with tops old).place_tree) ranked ranked.numbers
    (kept g at) (split g at) (g.K.Keyed.key c.args.keys.now) (λ k. refl))

pub returns-clause-room : goal.returns-clause-room
returns-clause-room g c =
    ap (λ (s : SphereColumns). s.place_tree.room) (now g (goal.at.returns-clause-room g c).After-note_rows)
    ∙ tops_room c.args.tops.now 0 (with_sphere (cleared c.args.self.now))

pub returns-clause-ranked : goal.returns-clause-ranked
returns-clause-ranked g c =
    let at = (goal.at.returns-clause-ranked g c).After-split_sphere in
    let noted = (goal.at.returns-clause-ranked g c).After-note_rows in
    let tops = c.args.tops.now in
    let old = c.args.self.now in
    let ranked = c.split_sphere.new.self.ranked in
    rw (now g noted)
    (first_ranked old tops (key_of (g.K.Keyed.key c.args.keys.now) (begun_with tops old).place_tree) ranked ranked.numbers
    (kept g at) (split g at) refl)

pub returns-clause-places : goal.returns-clause-places
returns-clause-places g c = λ unresolved.
    let at = (goal.at.returns-clause-places g c).After-split_sphere in
    let noted = (goal.at.returns-clause-places g c).After-note_rows in
    let tops = c.args.tops.now in
    let old = c.args.self.now in
    let ranked = c.split_sphere.new.self.ranked in
    rw (now g noted)
    (first_places old tops (key_of (g.K.Keyed.key c.args.keys.now) (begun_with tops old).place_tree) ranked ranked.numbers
    (kept g at) (split g at) unresolved)
