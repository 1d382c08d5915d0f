use Rattle.std.proofs.Common.{rules, ◌≡◌, ◌<◌, ℕ, true, List, length, slice_index, refl, sym, ap, ◌∙◌, subst, arith}
use Rattle.std.proofs.lemmas.Bool.{false≢true}
use Rattle.cip_partition.specs.Stirring.{IsAbove, StirsAbove, number_above}
use Rattle.cip_partition.proofs.lemmas.DirtyPlaces.{none_stirred, stirred_on, some_on, none_on}
use Rattle.cip_partition.proofs.splits.dirty.flag_dirty_parents.Goals as goal

pub loop-row-init : goal.loop-row-init
loop-row-init c = record {
  done = none_stirred c.args.family.now.place_parents c.args.order.now.rows c.args.before.now c.args.order.now.numbers c.args.from
      c.args.flags.now;
  some = λ is. absurd (false≢true is);
  none = λ not. refl;
}

pub stir_place-is_stirred-requires-clause-place : goal.stir_place-is_stirred-requires-clause-place
stir_place-is_stirred-requires-clause-place c =
    let high = c.loop-row-test.true in
    let within = c.requires.within in
    subst (λ (rows : List ℕ). slice_index rows c.loop-row.row < length c.args.order.now.numbers)
    (sym c.rows-rows.ensures.rows) (c.rows-rows.ensures.below c.loop-row.row (omega (arith, high, within)))

pub stir_place-is_stirred-requires-clause-family : goal.stir_place-is_stirred-requires-clause-family
stir_place-is_stirred-requires-clause-family c = c.requires.family

pub stir_place-is_stirred-requires-clause-before : goal.stir_place-is_stirred-requires-clause-before
stir_place-is_stirred-requires-clause-before c = c.requires.before

pub stir_place-is_stirred-requires-clause-above : goal.stir_place-is_stirred-requires-clause-above
stir_place-is_stirred-requires-clause-above c =
    subst (λ (rows : List ℕ). number_above c.args.family.now.place_parents rows c.args.order.now.numbers c.loop-row.row
    < c.args.from) (sym c.rows-rows.ensures.rows)
    (c.requires.above c.loop-row.row c.loop-row.auto.row c.loop-row-test.true)

pub stir_place-is_stirred-requires-clause-parent : goal.stir_place-is_stirred-requires-clause-parent
stir_place-is_stirred-requires-clause-parent c =
    let at = c.requires.parents c.loop-row.row c.loop-row.auto.row c.loop-row-test.true in
    let parent = ap (λ (rows : List ℕ). slice_index c.args.family.now.place_parents (slice_index rows c.loop-row.row))
    c.rows-rows.ensures.rows in
    subst (λ place. place < length c.args.order.now.numbers) (at.here ∙ sym parent)
    (c.rows-rows.ensures.below at.row at.high)

pub loop-row-preserved : goal.loop-row-preserved
loop-row-preserved c =
    let place = slice_index c.rows-rows.result.now c.loop-row.row in
    let above = slice_index c.args.order.now.numbers (slice_index c.args.family.now.place_parents place) in
    let dirty = c.stir_place-is_stirred.result in
    record {
      done = stirred_on c.args.family.now.place_parents c.args.order.now.rows c.args.before.now c.args.order.now.numbers
          c.args.from c.loop-row.row place above dirty c.args.flags.now c.loop-row.flags
          c.stir_place-is_stirred.new.flags c.loop-row.invariant.done c.loop-row.auto.row (search rules)
          (ap (λ (rows : List ℕ). slice_index rows c.loop-row.row) c.rows-rows.ensures.rows) refl
          c.stir_place-is_stirred.ensures.none c.stir_place-is_stirred.ensures.differs
          c.stir_place-is_stirred.ensures.shared c.stir_place-is_stirred.ensures.set;
      some = some_on c.args.family.now.place_parents c.args.order.now.rows c.args.before.now c.args.order.now.numbers c.args.from
          c.loop-row.row place c.loop-row.any dirty c.loop-row.auto.row
          (ap (λ (rows : List ℕ). slice_index rows c.loop-row.row) c.rows-rows.ensures.rows)
          c.loop-row.invariant.some c.stir_place-is_stirred.ensures.differs c.stir_place-is_stirred.ensures.shared;
      none = none_on c.loop-row.any dirty above c.args.flags.now c.loop-row.flags c.stir_place-is_stirred.new.flags
          c.loop-row.invariant.none c.stir_place-is_stirred.ensures.set;
    }

pub returns-clause-dirty : goal.returns-clause-dirty
returns-clause-dirty c =
    let ended : c.loop-row.row ≡ c.args.to = omega (arith, c.loop-row.auto.row-end, c.loop-row-test.false) in
    subst (λ n. StirsAbove c.args.family.now.place_parents c.args.order.now.rows c.args.before.now c.args.order.now.numbers
    c.args.from n c.args.flags.now c.loop-row.flags) ended c.loop-row.invariant.done

pub returns-clause-some : goal.returns-clause-some
returns-clause-some c =
    let ended : c.loop-row.row ≡ c.args.to = omega (arith, c.loop-row.auto.row-end, c.loop-row-test.false) in
    subst (λ n. c.loop-row.any ≡ true → (number : ℕ) × IsAbove c.args.family.now.place_parents c.args.order.now.rows
    c.args.before.now c.args.order.now.numbers c.args.from n number) ended c.loop-row.invariant.some
