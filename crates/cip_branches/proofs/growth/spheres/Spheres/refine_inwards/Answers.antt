use Rattle.std.proofs.Common.{◌≡◌, arith, ◌+◌, ◌-◌, ℕ, suc, List, length, false, slice_index, refl, ◌∙◌, sym, ap, subst}
use Rattle.cip_partition.specs.Kids.{kids_of, by_kids}
use Rattle.cip_branches.specs.SphereColumns.{SphereColumns}
use Rattle.cip_partition.specs.Rows.{IsRow, OrdersPlaces}
use Rattle.cip_partition.proofs.lemmas.Cases.{not_both}
use Rattle.cip_branches.specs.Turning.{Refinement}
use Rattle.cip_branches.proofs.lemmas.refined.Refinement.{Given, given, read_at}
use Rattle.cip_branches.proofs.growth.spheres.Spheres.refine_inwards.Goals as goal
use Rattle.cip_branches.proofs.growth.spheres.Spheres.refine_inwards.Goals.{After-first_row-past, After-refine_sphere_by_next}

-- what the code reads of the starts, which are unchanged
starts_are : (c : After-first_row-past) → c.loop-inner.self.starts ≡ c.args.self.now.starts
starts_are c = ap (λ (s : SphereColumns). s.starts) c.loop-inner.invariant.others

given_here : (c : After-first_row-past) → Given c.args.self.now c.loop-inner.self c.args.last c.args.far
    c.loop-inner.inner c.first_row-from.result c.first_row-to.result c.first_row-past.result
given_here c =
    let starts = c.args.self.now.starts in
    let t = c.loop-inner.inner - 1 in
    let same = λ (row : ℕ). ap (λ (ns : List ℕ). slice_index ns row) (starts_are c) in
    given c.args.self.now c.loop-inner.self c.loop-inner.invariant.others c.args.last c.args.far
    c.loop-inner.inner c.first_row-from.result c.first_row-to.result c.first_row-past.result
    c.requires.spheres c.requires.far c.loop-inner-test.true c.loop-inner.invariant.high c.loop-inner.invariant.refinement
    (read_at starts t t c.first_row-from.result (c.first_row-from.ensures.value ∙ same t) refl)
    (read_at starts (t + 1) (suc t) c.first_row-to.result (c.first_row-to.ensures.value ∙ same (t + 1)) (omega arith))
    (read_at starts (t + 2) (suc (suc t)) c.first_row-past.result (c.first_row-past.ensures.value ∙ same (t + 2))
    (omega arith)) c.requires.steady

pub first_row-from-requires : goal.first_row-from-requires
first_row-from-requires c =
    let starts = ap (λ (s : SphereColumns). length s.starts) c.loop-inner.invariant.others in
    omega (arith, starts, c.loop-inner.invariant.high, c.requires.far, c.requires.last, c.loop-inner-test.true)

pub first_row-to-requires : goal.first_row-to-requires
first_row-to-requires c =
    let starts = ap (λ (s : SphereColumns). length s.starts) c.loop-inner.invariant.others in
    omega (arith, starts, c.loop-inner.invariant.high, c.requires.far, c.requires.last, c.loop-inner-test.true)

pub first_row-past-requires : goal.first_row-past-requires
first_row-past-requires c =
    let starts = ap (λ (s : SphereColumns). length s.starts) c.loop-inner.invariant.others in
    omega (arith, starts, c.loop-inner.invariant.high, c.requires.far, c.requires.last, c.loop-inner-test.true)

pub refine_sphere_by_next-requires-clause-ordered : goal.refine_sphere_by_next-requires-clause-ordered
refine_sphere_by_next-requires-clause-ordered c =
    (given_here (goal.at.refine_sphere_by_next-requires-clause-ordered c).After-first_row-past).asks.ordered

pub refine_sphere_by_next-requires-clause-behind : goal.refine_sphere_by_next-requires-clause-behind
refine_sphere_by_next-requires-clause-behind c =
    (given_here (goal.at.refine_sphere_by_next-requires-clause-behind c).After-first_row-past).asks.behind

pub refine_sphere_by_next-requires-clause-within : goal.refine_sphere_by_next-requires-clause-within
refine_sphere_by_next-requires-clause-within c =
    (given_here (goal.at.refine_sphere_by_next-requires-clause-within c).After-first_row-past).asks.within

pub refine_sphere_by_next-requires-clause-classed : goal.refine_sphere_by_next-requires-clause-classed
refine_sphere_by_next-requires-clause-classed c =
    (given_here (goal.at.refine_sphere_by_next-requires-clause-classed c).After-first_row-past).asks.classed

pub refine_sphere_by_next-requires-clause-parents : goal.refine_sphere_by_next-requires-clause-parents
refine_sphere_by_next-requires-clause-parents c =
    (given_here (goal.at.refine_sphere_by_next-requires-clause-parents c).After-first_row-past).asks.parents

pub refine_sphere_by_next-requires-clause-tie : goal.refine_sphere_by_next-requires-clause-tie
refine_sphere_by_next-requires-clause-tie c =
    (given_here (goal.at.refine_sphere_by_next-requires-clause-tie c).After-first_row-past).asks.tie

-- where a sphere is unchanged, so are all further in
stopped : (c : After-refine_sphere_by_next) → c.refine_sphere_by_next.result ≡ false →
    let first = c.args.self.now in
    let now = c.refine_sphere_by_next.new.self.ranked in
    Refinement (kids_of first.place_tree) first.place_tree.place_parents first.ranked.rows first.starts c.args.far c.args.last first.ranked.numbers 0
    now.rows now.numbers
stopped c not =
    let first = c.args.self.now in
    let still = c.refine_sphere_by_next.ensures.still not in
    rw still ((given_here c.before.before).stopped
    (subst (λ (s : SphereColumns). OrdersPlaces (IsRow c.loop-inner.self.ranked.rows
    c.first_row-from.result c.first_row-to.result)
    (by_kids (kids_of c.loop-inner.self.place_tree) c.loop-inner.self.ranked.numbers) s.ranked.numbers) still
    c.refine_sphere_by_next.ensures.ordered))

pub returns-then-not-refine_sphere_by_next-clause-refined : goal.returns-then-not-refine_sphere_by_next-clause-refined
returns-then-not-refine_sphere_by_next-clause-refined c =
    (stopped (goal.at.returns-then-not-refine_sphere_by_next-clause-refined c).After-refine_sphere_by_next
    c.if-not-refine_sphere_by_next.true).refines

pub returns-then-not-refine_sphere_by_next-clause-spheres : goal.returns-then-not-refine_sphere_by_next-clause-spheres
returns-then-not-refine_sphere_by_next-clause-spheres c =
    (stopped (goal.at.returns-then-not-refine_sphere_by_next-clause-spheres c).After-refine_sphere_by_next
    c.if-not-refine_sphere_by_next.true).spheres

pub returns-then-not-refine_sphere_by_next-clause-places : goal.returns-then-not-refine_sphere_by_next-clause-places
returns-then-not-refine_sphere_by_next-clause-places c =
    (stopped (goal.at.returns-then-not-refine_sphere_by_next-clause-places c).After-refine_sphere_by_next
    c.if-not-refine_sphere_by_next.true).places

pub returns-then-not-refine_sphere_by_next-clause-stand : goal.returns-then-not-refine_sphere_by_next-clause-stand
returns-then-not-refine_sphere_by_next-clause-stand c =
    let first = c.args.self.now in
    rw (c.refine_sphere_by_next.ensures.still c.if-not-refine_sphere_by_next.true) c.loop-inner.invariant.refinement.stand

pub returns-then-not-refine_sphere_by_next-clause-others : goal.returns-then-not-refine_sphere_by_next-clause-others
returns-then-not-refine_sphere_by_next-clause-others c =
    rw (c.refine_sphere_by_next.ensures.still c.if-not-refine_sphere_by_next.true) c.loop-inner.invariant.others

pub returns-then-not-refine_sphere_by_next-clause-room : goal.returns-then-not-refine_sphere_by_next-clause-room
returns-then-not-refine_sphere_by_next-clause-room c =
    ap (λ (s : SphereColumns). s.ranked.room) (c.refine_sphere_by_next.ensures.still c.if-not-refine_sphere_by_next.true)
    ∙ c.loop-inner.invariant.room

pub returns-then-not-refine_sphere_by_next-clause-inner : goal.returns-then-not-refine_sphere_by_next-clause-inner
returns-then-not-refine_sphere_by_next-clause-inner c =
    let first = c.args.self.now in
    rw (c.refine_sphere_by_next.ensures.still c.if-not-refine_sphere_by_next.true) (record {
      high = let le = c.loop-inner.invariant.high in omega (arith, le);
      dirty = c.loop-inner.invariant.dirty;
      stands = (given_here (goal.at.returns-then-not-refine_sphere_by_next-clause-inner c).After-first_row-past).stands
          (λ found. let looked = c.refine_sphere_by_next.ensures.looked.1 found in let not = c.if-not-refine_sphere_by_next.true in
          not_both c.refine_sphere_by_next.result looked not);
    })

pub loop-inner-preserved : goal.loop-inner-preserved
loop-inner-preserved c =
    let here = given_here (goal.at.loop-inner-preserved c).After-first_row-past in
    let new = c.refine_sphere_by_next.new.self.ranked in
    record {
      high = let le = c.loop-inner.invariant.high in omega (arith, le);
      refinement = here.turned new.rows new.numbers c.refine_sphere_by_next.ensures.ordered c.refine_sphere_by_next.ensures.kept;
      dirty = here.dirty new.rows new.numbers c.refine_sphere_by_next.ensures.kept
          (c.refine_sphere_by_next.ensures.looked.0 c.if-not-refine_sphere_by_next.false) c.loop-inner.invariant.dirty;
      others = c.refine_sphere_by_next.ensures.others ∙ ap (λ (s : SphereColumns). record s { ranked = c.refine_sphere_by_next.new.self.ranked })
          c.loop-inner.invariant.others;
      room = c.refine_sphere_by_next.ensures.room ∙ c.loop-inner.invariant.room;
    }

pub returns-clause-spheres : goal.returns-clause-spheres
returns-clause-spheres c = c.loop-inner.invariant.refinement.spheres

-- all spheres were looked at
pub returns-clause-refined : goal.returns-clause-refined
returns-clause-refined c =
    let first = c.args.self.now in
    let done : c.loop-inner.inner ≡ 0 = omega (arith, c.loop-inner-test.false) in
    rw (sym done) c.loop-inner.invariant.refinement.refines

pub returns-clause-places : goal.returns-clause-places
returns-clause-places c = c.loop-inner.invariant.refinement.places

pub returns-clause-inner : goal.returns-clause-inner
returns-clause-inner c =
    let first = c.args.self.now in
    let done : c.loop-inner.inner ≡ 0 = omega (arith, c.loop-inner-test.false) in
    record {
      high = omega arith;
      dirty = rw (sym done) c.loop-inner.invariant.dirty;
      stands = λ u at dirty. absurd (let none : 0 ≡ suc u = at in omega (arith, none));
    }

pub returns-clause-stand : goal.returns-clause-stand
returns-clause-stand c =
    let first = c.args.self.now in
    let done : c.loop-inner.inner ≡ 0 = omega (arith, c.loop-inner-test.false) in
    rw (sym done) c.loop-inner.invariant.refinement.stand

pub returns-clause-others : goal.returns-clause-others
returns-clause-others c = c.loop-inner.invariant.others

pub returns-clause-room : goal.returns-clause-room
returns-clause-room c = c.loop-inner.invariant.room
