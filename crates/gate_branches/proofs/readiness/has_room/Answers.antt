use Rattle.std.proofs.Common.{◌≡◌, ◌-◌, ◌*◌, length, ap, ◌∙◌, arith}
use Rattle.gate_branches.proofs.lemmas.FewKids.{left_few}
use Rattle.gate_branches.proofs.readiness.has_room.Goals as goal

pub returns-then-most-room-clause-places : goal.returns-then-most-room-clause-places
returns-then-most-room-clause-places c within =
    let columns = c.args.digraph.now in
    let now = c.args.branches.now in
    let places = length now.layers.place_tree.place_parents in
    let left = left_few columns.parents columns.way now.layers.place_tree.nodes now.first (places - now.first) in
    let last : c.saturating_sub-open.result ≡ places - now.first =
    c.saturating_sub-open.ensures ∙ ap (λ n. n - c.first.result) c.len-places.ensures.count
    ∙ ap (λ n. places - n) c.first.ensures in
    let product : c.saturating_sub-open.result * c.len.result ≡ (places - now.first) * length columns.parents =
    ap (λ n. n * c.len.result) last ∙ ap (λ n. (places - now.first) * n) c.len.ensures in
    let count = c.len-places.ensures.count in
    let kids = c.saturating_mul-kids.ensures in
    let some = c.saturating_add.ensures in
    let most = c.saturating_add-most.ensures in
    let few = c.if-most-room.true in
    let room = c.room-room.ensures in
    let bound = c.room-room.type_inv in
    omega (arith, left, last, product, count, kids, some, most, few, room, bound)
