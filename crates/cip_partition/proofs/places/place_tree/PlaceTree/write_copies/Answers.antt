use Rattle.std.proofs.Common.{List, length, ◌∙◌, ap, arith}
use Rattle.cip_partition.specs.PlaceTree.{PlaceTree, kin_of}
use Rattle.cip_partition.specs.ReservedList.{ReservedList}
use Rattle.cip_partition.specs.Twins.{twin_kin}
use Rattle.cip_partition.specs.declared.places.place.Place.{Place}
use Rattle.cip_partition.proofs.lemmas.FamilyColumn.{place_count}
use Rattle.cip_partition.proofs.lemmas.TwinLists.{doubles_few, twins_length}
use Rattle.cip_partition.proofs.lemmas.TwinPlaces.{first_pushed, both_pushed, both_are_twins, keep_twins}
use Rattle.cip_partition.proofs.places.place_tree.PlaceTree.write_copies.Goals as goal

pub push_moved-requires-clause-twice : goal.push_moved-requires-clause-twice
push_moved-requires-clause-twice c =
    doubles_few c.len-count.ensures.count c.requires (ap (λ (k : PlaceTree). k.room) c.self.view_is) c.self.invariant.few

pub push_moved-requires-clause-room : goal.push_moved-requires-clause-room
push_moved-requires-clause-room c =
    let cleared = ap (λ (r : ReservedList Place). length r.items) c.clear.ensures in
    let room = ap (λ (r : ReservedList Place). r.room) c.clear.ensures in
    let places = ap (λ (xs : List Place). length xs) c.as_slice-places.ensures in
    let count = c.len-count.ensures.count
    ∙ place_count c.from.inside.places c.args.from.now c.from.view_is in
    let same = ap (λ (k : PlaceTree). k.room) c.self.view_is in
    let is = c.len-count.ensures.count in
    let fits = c.requires in
    omega (arith, cleared, room, places, count, same, is, fits)

pub push_moved-requires-2-clause-few : goal.push_moved-requires-2-clause-few
push_moved-requires-2-clause-few c =
    doubles_few c.len-count.ensures.count c.requires (ap (λ (k : PlaceTree). k.room) c.self.view_is) c.self.invariant.few

pub push_moved-requires-2-clause-twice : goal.push_moved-requires-2-clause-twice
push_moved-requires-2-clause-twice c =
    doubles_few c.len-count.ensures.count c.requires (ap (λ (k : PlaceTree). k.room) c.self.view_is) c.self.invariant.few

pub push_moved-requires-2-clause-room : goal.push_moved-requires-2-clause-room
push_moved-requires-2-clause-room c =
    let ps = c.from.inside.places.items in
    let count = c.len-count.ensures.count ∙ place_count c.from.inside.places c.args.from.now c.from.view_is in
    let first = first_pushed _ c.len-count.result c.clear.new.self c.push_moved.new.self ps c.as_slice-places.result.now
    count c.as_slice-places.ensures c.clear.ensures c.push_moved.ensures in
    let len = ap (λ (r : ReservedList Place). length r.items) first ∙ twins_length 0 0 (length ps) ps in
    let room = ap (λ (r : ReservedList Place). r.room) first in
    let places = ap (λ (xs : List Place). length xs) c.as_slice-places.ensures in
    let same = ap (λ (k : PlaceTree). k.room) c.self.view_is in
    let is = c.len-count.ensures.count in
    let fits = c.requires in
    omega (arith, len, room, places, count, same, is, fits)

pub invariant_of-self : goal.invariant_of-self
invariant_of-self c =
    let from = c.from.inside.places in
    let count = c.len-count.ensures.count ∙ place_count from c.args.from.now c.from.view_is in
    let same = ap (λ (k : PlaceTree). k.room) c.self.view_is in
    let is = c.len-count.ensures.count in
    let fits = c.requires in
    keep_twins c.push_moved-2.new.self c.self.inside.places.room from
    (both_pushed _ c.len-count.result c.clear.new.self c.push_moved.new.self from.items c.as_slice-places.result.now
    count c.as_slice-places.ensures c.clear.ensures c.push_moved.ensures c.push_moved-2.new.self c.push_moved-2.ensures)
    c.self.invariant.few (omega (arith, count, same, is, fits)) c.from.invariant.family

pub returns-clause-twins : goal.returns-clause-twins
returns-clause-twins c =
    let from = c.from.inside.places in
    let room = c.self.inside.places.room in
    let count = c.len-count.ensures.count ∙ place_count from c.args.from.now c.from.view_is in
    ap kin_of (both_pushed _ c.len-count.result c.clear.new.self c.push_moved.new.self from.items
    c.as_slice-places.result.now count c.as_slice-places.ensures c.clear.ensures c.push_moved.ensures
    c.push_moved-2.new.self c.push_moved-2.ensures)
    ∙ both_are_twins room from.room from.items ∙ ap (twin_kin room) c.from.view_is
    ∙ ap (λ r. twin_kin r c.args.from.now) (ap (λ (k : PlaceTree). k.room) c.self.view_is)
