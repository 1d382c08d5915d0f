use Rattle.std.proofs.Common.{ℕ, append_assoc, ◌≡◌, ◌+◌, ◌++◌, ◌∷◌, [], length, get_or, take, sym, ap, ◌∙◌, arith}
use Rattle.std.proofs.lemmas.Grind.{common_steps}
use Rattle.std.proofs.lemmas.List.{length-append, length-take-le}
use Rattle.cip_partition.specs.ReservedList.{ReservedList}
use Rattle.cip_partition.specs.Twins.{pairs}
use Rattle.cip_partition.proofs.lemmas.TwinLists.{pairs_more, pairs_length}
use Rattle.cip_partition.proofs.places.copies.ReservedVec+u32.write_pairs.Goals as goal

pub push-requires : goal.push-requires
push-requires c =
    let places = c.args.places.now in
    let i = c.loop-place.place-index in
    let items = ap (λ (r : ReservedList ℕ). length r.items) c.loop-place.invariant.written in
    let room = ap (λ (r : ReservedList ℕ). r.room) c.loop-place.invariant.written in
    let pairs_len = pairs_length c.args.count (take i places) in
    let len = length-take-le i places (omega arith) in
    omega (arith, items, room, pairs_len, len)

pub push-requires-in-loop-place : goal.push-requires-in-loop-place
push-requires-in-loop-place c =
    let places = c.args.places.now in
    let i = c.loop-place.place-index in
    let pushed = c.push.ensures ∙ ap (λ (r : ReservedList ℕ). record r { items = r.items ++ get_or places i 0 ∷ [] })
    c.loop-place.invariant.written in
    let items = ap (λ (r : ReservedList ℕ). length r.items) pushed in
    let room = ap (λ (r : ReservedList ℕ). r.room) pushed in
    let pairs_len = pairs_length c.args.count (take i places) in
    let more = length-append (pairs c.args.count (take i places)) (get_or places i 0 ∷ []) in
    let len = length-take-le i places (omega arith) in
    omega (arith, items, room, pairs_len, more, len)

pub loop-place-preserved : goal.loop-place-preserved
loop-place-preserved c = record {
  written = c.push-in-loop-place.ensures
      ∙ ap (λ (r : ReservedList ℕ). record r { items = r.items ++ (c.args.count + get_or c.args.places.now i 0) ∷ [] }) pushed
      ∙ ap (λ ns. record c.args.self.now { items = ns }) (append_assoc (pairs c.args.count (take i c.args.places.now))
      (get_or c.args.places.now i 0 ∷ []) ((c.args.count + get_or c.args.places.now i 0) ∷ [])
      ∙ sym (pairs_more c.args.count c.args.places.now i 0 (omega arith)));
}
  where
    i : ℕ
    i = c.loop-place.place-index

    pushed : c.push.new.self ≡ record c.args.self.now {
      items = pairs c.args.count (take i c.args.places.now) ++ get_or c.args.places.now i 0 ∷ [];
    }
    pushed = c.push.ensures ∙ ap (λ (r : ReservedList ℕ). record r { items = r.items ++ get_or c.args.places.now i 0 ∷ [] })
        c.loop-place.invariant.written

pub returns : goal.returns
returns c = grind (arith, common_steps)
