use Rattle.std.proofs.Common.{arith}
use Rattle.std.proofs.lemmas.Grind.{common_steps}
use Rattle.cip_partition.proofs.lemmas.FamilyColumn.{kids_within, place_count, place_within}
use Rattle.cip_partition.proofs.places.place_tree.PlaceTree.children.Goals as goal

pub bounds-as_slice-place : goal.bounds-as_slice-place
bounds-as_slice-place c =
    place_within c.self.inside.places c.args.self.now c.self.view_is c.as_slice.result.now c.as_slice.ensures
    c.args.place c.requires

pub overflow_add-result : goal.overflow_add-result
overflow_add-result c =
    let within = kids_within c.self.inside.places c.self.invariant c.args.self.now c.self.view_is c.as_slice.result.now
    c.as_slice.ensures c.args.place c.requires in
    let fits = c.self.invariant.fits in
    let few = c.self.invariant.few in
    omega (arith, within, fits, few)

pub returns-clause-within : goal.returns-clause-within
returns-clause-within c =
    let within = kids_within c.self.inside.places c.self.invariant c.args.self.now c.self.view_is c.as_slice.result.now
    c.as_slice.ensures c.args.place c.requires in
    let count = place_count c.self.inside.places c.args.self.now c.self.view_is in
    omega (arith, within, count)

pub returns-clause-past : goal.returns-clause-past
returns-clause-past c = grind (arith, common_steps)

pub returns-clause-first : goal.returns-clause-first
returns-clause-first c = grind (arith, common_steps)
