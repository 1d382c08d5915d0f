use Rattle.std.proofs.Common.{append_assoc, ◌≡◌, ◌+◌, ◌++◌, ◌∷◌, [], List, get_or, length, take, sym, ap, ◌∙◌, arith}
use Rattle.std.proofs.lemmas.Grind.{common_steps}
use Rattle.std.proofs.lemmas.List.{length-append, length-take-le}
use Rattle.cip_partition.specs.ReservedList.{ReservedList}
use Rattle.cip_partition.specs.Twins.{twin_place, twins_from}
use Rattle.cip_partition.specs.declared.places.place.Place.{Place}
use Rattle.cip_partition.proofs.lemmas.TwinLists.{twins_length, twins_more}
use Rattle.cip_partition.proofs.places.copies.ReservedVec+Place.push_moved.Goals as goal

pub push-requires : goal.push-requires
push-requires c =
    let places = c.args.places.now in
    let i = c.loop-place.place-index in
    let node = length c.args.self.now.items in
    let items = ap (λ (r : ReservedList Place). length r.items) c.loop-place.invariant.added
    ∙ length-append c.args.self.now.items (twins_from node c.args.by c.args.count (take i places)) in
    let room = ap (λ (r : ReservedList Place). r.room) c.loop-place.invariant.added in
    let moved = twins_length node c.args.by c.args.count (take i places) in
    let len = length-take-le i places (omega arith) in
    let fits = c.requires.room in
    omega (arith, items, room, moved, len, fits)

pub loop-place-preserved : goal.loop-place-preserved
loop-place-preserved c =
    let places = c.args.places.now in
    let i = c.loop-place.place-index in
    let old = c.args.self.now.items in
    let node = length old in
    let by = c.args.by in
    let count = c.args.count in
    let here = c.twin_place.result in
    let before = twins_from node by count (take i places) in
    let items = ap (λ (r : ReservedList Place). length r.items) c.loop-place.invariant.added ∙ length-append old before in
    let moved = twins_length node by count (take i places) in
    let len = length-take-le i places (omega arith) in
    let number = c.len-node.ensures.count in
    let next : c.len-node.result ≡ node + i = omega (arith, items, moved, len, number) in
    let none : Place = record { node = 0; branch = 0; parent_place = 0; first = 0; count = 0 } in
    let is : here ≡ twin_place (node + i) by count (get_or places i none) =
    c.twin_place.ensures ∙ ap (λ k. twin_place k by count (get_or places i none)) next in
    record {
      added = c.push.ensures
          ∙ ap (λ (r : ReservedList Place). record r { items = r.items ++ here ∷ [] }) c.loop-place.invariant.added
          ∙ ap (λ (ts : List Place). record c.args.self.now { items = ts }) (append_assoc old before (here ∷ [])
          ∙ ap (λ (ts : List Place). old ++ ts) (ap (λ (p : Place). before ++ p ∷ []) is
          ∙ sym (twins_more node by count places i none (omega arith))));
    }

pub returns : goal.returns
returns c = grind (arith, common_steps)
