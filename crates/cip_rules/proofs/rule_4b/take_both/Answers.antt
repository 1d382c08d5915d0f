use Rattle.std.proofs.Common.{ap, ◌∙◌, arith}
use Rattle.cip_rules.specs.Rule4bWorkspace.{Readied}
use Rattle.cip_rules.proofs.rule_4b.take_both.Goals as goal

pub write_values-requires-clause-few : goal.write_values-requires-clause-few
write_values-requires-clause-few g c =
    let bound = ap (λ (r : Readied). r.bound) c.readings.view_is in
    omega (arith, bound, c.requires.room, c.readings.invariant.few)

pub write_values-requires-clause-room : goal.write_values-requires-clause-room
write_values-requires-clause-room g c =
    let bound = ap (λ (r : Readied). r.bound) c.readings.view_is in
    omega (arith, bound, c.requires.room, c.readings.invariant.values_room)

pub take_with-requires-clause-room : goal.take_with-requires-clause-room
take_with-requires-clause-room g c =
    let bound = ap (λ (r : Readied). r.bound) c.readings.view_is in
    omega (arith, bound, c.requires.room, c.readings.invariant.twins_room)

pub take_with-requires-clause-saved_room : goal.take_with-requires-clause-saved_room
take_with-requires-clause-saved_room g c =
    let bound = ap (λ (r : Readied). r.bound) c.readings.view_is in
    omega (arith, bound, c.requires.room, c.readings.invariant.saved_room)

pub take_with-requires-clause-sides_room : goal.take_with-requires-clause-sides_room
take_with-requires-clause-sides_room g c =
    let bound = ap (λ (r : Readied). r.bound) c.readings.view_is in
    omega (arith, bound, c.requires.room, c.readings.invariant.sides_room, c.branch_count-branches.ensures.tops)

pub invariant_of-readings : goal.invariant_of-readings
invariant_of-readings g c = record {
  few = c.readings.invariant.few;
  twins_room = c.take_with.ensures.room ∙ c.readings.invariant.twins_room;
  saved_room = c.take_with.ensures.saved_room ∙ c.readings.invariant.saved_room;
  sides_room = c.take_with.ensures.sides_room ∙ c.readings.invariant.sides_room;
  values_room = c.write_values.ensures.room ∙ c.readings.invariant.values_room;
}

pub returns-then-len-gt0-clause-taken : goal.returns-then-len-gt0-clause-taken
returns-then-len-gt0-clause-taken g c = λ some. c.take_with.ensures.taken

pub returns-then-len-gt0-clause-may : goal.returns-then-len-gt0-clause-may
returns-then-len-gt0-clause-may g c = λ some. c.take_with.ensures.may

pub returns-then-len-gt0-clause-tops : goal.returns-then-len-gt0-clause-tops
returns-then-len-gt0-clause-tops g c = c.branch_count-branches.ensures.tops

pub returns-then-len-gt0-clause-bound : goal.returns-then-len-gt0-clause-bound
returns-then-len-gt0-clause-bound g c = ap (λ (r : Readied). r.bound) c.readings.view_is

pub write_values-requires-clause-keyed : goal.write_values-requires-clause-keyed
write_values-requires-clause-keyed g c = c.requires.keyed

pub take_with-requires-clause-followed : goal.take_with-requires-clause-followed
take_with-requires-clause-followed g c = c.requires.followed
