use Rattle.std.proofs.Common.{◌≡◌, ◌-◌, List, ℕ, length, arith, ◌∙◌, sym, ap}
use Rattle.std.specs.List.{range_with_len}
use Rattle.std.proofs.lemmas.List.FromFn.{length-range_with_len}
use Rattle.cip_branches.specs.SphereColumns.{SphereColumns, with_new_place, with_nodes}
use Rattle.cip_branches.proofs.lemmas.walked.Pushed.{places_more, room_stays, range_on}
use Rattle.cip_branches.proofs.growth.spheres.Spheres.push_children.Goals as goal

pub push_place-requires : goal.push_place-requires
push_place-requires c =
    let first = c.children-first.result.0 in
    let child = c.loop-child.child in
    let before = range_with_len first (child - first) in
    let so_far = length-range_with_len first (child - first) in
    let many = ap (λ (ns : List ℕ). length ns) c.children-first.ensures.children
    ∙ length-range_with_len first (c.children-first.result.1 - first) in
    let places = ap (λ (s : SphereColumns). length s.place_tree.place_parents) c.loop-child.invariant.pushed
    ∙ places_more before c.args.branch c.args.parent_place c.args.number c.args.self.now in
    let room = ap (λ (s : SphereColumns). s.place_tree.room) c.loop-child.invariant.pushed
    ∙ room_stays before c.args.branch c.args.parent_place c.args.number c.args.self.now in
    omega (arith, so_far, many, places, room, c.loop-child.auto.child, c.loop-child-test.true, c.requires.room)

pub loop-child-preserved : goal.loop-child-preserved
loop-child-preserved c = record {
  high = let lt = c.loop-child-test.true in omega (arith, lt);
  pushed = c.push_place.ensures
      ∙ ap (with_new_place c.loop-child.child c.args.branch c.args.parent_place c.args.number) c.loop-child.invariant.pushed
      ∙ sym (range_on c.children-first.result.0 c.loop-child.child c.args.branch c.args.parent_place c.args.number
      c.args.self.now c.loop-child.auto.child);
}

pub returns : goal.returns
returns c =
    let first = c.children-first.result.0 in
    let past = c.children-first.result.1 in
    let push = λ (ns : List ℕ). with_nodes ns c.args.branch c.args.parent_place c.args.number c.args.self.now in
    let ended : c.loop-child.child ≡ past = let high = c.loop-child.invariant.high in
    let over = c.loop-child-test.false in omega (arith, high, over) in
    c.loop-child.invariant.pushed ∙ ap (λ n. push (range_with_len first (n - first))) ended
    ∙ ap push (sym c.children-first.ensures.children)
