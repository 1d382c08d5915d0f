use Rattle.std.proofs.Common.{◌≡◌, ◌+◌, ◌-◌, ◌∷◌, [], ℕ, Bool, not, List, filter, length, arith, ◌∙◌, sym, ap, length-append}
use Rattle.std.specs.List.{range_with_len}
use Rattle.cip_rank.proofs.lemmas.ChildrenSeen.{kept_one, kept_part}
use Rattle.cip_branches.specs.ViewedTree.{kept_off}
use Rattle.cip_branches.specs.SphereColumns.{SphereColumns, with_nodes}
use Rattle.cip_partition.specs.Parting.{has_flag}
use Rattle.cip_branches.proofs.lemmas.walked.Pushed.{nodes_both, places_more, room_stays}
use Rattle.cip_branches.proofs.growth.spheres.Spheres.push_children_off_path.Goals as goal

pub push_if_off-requires : goal.push_if_off-requires
push_if_off-requires c =
    let way = c.args.around.now.way.now in
    let off : ℕ → Bool = λ n. not (has_flag way n) in
    let first = c.children-first.result.0 in
    let past = c.children-first.result.1 in
    let child = c.loop-child.child in
    let low = c.loop-child.auto.child in
    let before = kept_off way (range_with_len first (child - first)) in
    let one = ap length (kept_one off first child low) in
    let both = length-append before (filter off (child ∷ [])) in
    let part = kept_part off first (child + 1 - first) (past - first) (omega (arith, low, c.loop-child-test.true)) in
    let kids = ap (λ (ns : List ℕ). length (kept_off way ns)) c.children-first.ensures.children in
    let places = ap (λ (s : SphereColumns). length s.place_tree.place_parents) c.loop-child.invariant.pushed
    ∙ places_more before c.args.branch c.args.parent_place c.args.number c.args.self.now in
    let room = ap (λ (s : SphereColumns). s.place_tree.room) c.loop-child.invariant.pushed
    ∙ room_stays before c.args.branch c.args.parent_place c.args.number c.args.self.now in
    omega (arith, one, both, part, kids, places, room, c.requires.room)

pub loop-child-preserved : goal.loop-child-preserved
loop-child-preserved c =
    let way = c.args.around.now.way.now in
    let off : ℕ → Bool = λ n. not (has_flag way n) in
    let first = c.children-first.result.0 in
    let child = c.loop-child.child in
    let before = kept_off way (range_with_len first (child - first)) in
    let push = λ (ns : List ℕ) (s : SphereColumns). with_nodes ns c.args.branch c.args.parent_place c.args.number s in
    record {
      high = let lt = c.loop-child-test.true in omega (arith, lt);
      pushed = c.push_if_off.ensures ∙ ap (push (kept_off way (child ∷ []))) c.loop-child.invariant.pushed
          ∙ sym (nodes_both before (kept_off way (child ∷ [])) c.args.branch c.args.parent_place c.args.number c.args.self.now)
          ∙ ap (λ (ns : List ℕ). push ns c.args.self.now) (sym (kept_one off first child c.loop-child.auto.child));
    }

pub returns : goal.returns
returns c =
    let way = c.args.around.now.way.now in
    let first = c.children-first.result.0 in
    let past = c.children-first.result.1 in
    let push = λ (ns : List ℕ). with_nodes ns c.args.branch c.args.parent_place c.args.number c.args.self.now in
    let ended : c.loop-child.child ≡ past = let high = c.loop-child.invariant.high in
    let over = c.loop-child-test.false in omega (arith, high, over) in
    c.loop-child.invariant.pushed ∙ ap (λ n. push (kept_off way (range_with_len first (n - first)))) ended
    ∙ ap (λ (ns : List ℕ). push (kept_off way ns)) (sym c.children-first.ensures.children)
