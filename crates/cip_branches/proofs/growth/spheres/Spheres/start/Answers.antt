use Rattle.std.proofs.Common.{◌≡◌, ◌+◌, ℕ, List, length, take, slice_index, arith, ◌∙◌, sym, ap}
use Rattle.std.proofs.lemmas.List.{length-take-le, take_more}
use Rattle.cip_branches.specs.SphereColumns.{SphereColumns, cleared, with_new_place, with_sphere, with_tops}
use Rattle.cip_branches.proofs.lemmas.walked.First.{tops_more, tops_count, tops_room, tops_starts}
use Rattle.cip_branches.proofs.growth.spheres.Spheres.start.Goals as goal

pub push_place-requires : goal.push_place-requires
push_place-requires c =
    let none = with_sphere (cleared c.args.self.now) in
    let so_far = take c.loop-branch.branch c.args.tops.now in
    let lt = c.loop-branch-test.true in
    let many : length so_far ≡ c.loop-branch.branch = length-take-le c.loop-branch.branch c.args.tops.now
    (omega (arith, lt)) in
    let count : length c.loop-branch.self.place_tree.place_parents ≡ 0 + length so_far = ap (λ (s : SphereColumns). length s.place_tree.place_parents)
    c.loop-branch.invariant.begun ∙ tops_count so_far 0 none in
    let room : c.loop-branch.self.place_tree.room ≡ c.args.self.now.place_tree.room = ap (λ (s : SphereColumns). s.place_tree.room)
    c.loop-branch.invariant.begun ∙ tops_room so_far 0 none in
    omega (arith, lt, many, count, room, c.requires.room)

pub loop-branch-preserved : goal.loop-branch-preserved
loop-branch-preserved c =
    let none = with_sphere (cleared c.args.self.now) in
    let so_far = take c.loop-branch.branch c.args.tops.now in
    let lt = c.loop-branch-test.true in
    let node = slice_index c.args.tops.now c.loop-branch.branch in
    let many : 0 + length so_far ≡ c.loop-branch.branch =
    let len = length-take-le c.loop-branch.branch c.args.tops.now (omega (arith, lt)) in omega (arith, len) in
    record {
      begun = c.push_place.ensures
          ∙ ap (with_new_place node c.loop-branch.branch 0 0) c.loop-branch.invariant.begun
          ∙ ap (λ b. with_new_place node b 0 0 (with_tops so_far 0 none)) (sym many)
          ∙ sym (tops_more so_far node 0 none)
          ∙ ap (λ (ns : List ℕ). with_tops ns 0 none) (sym (take_more c.args.tops.now c.loop-branch.branch 0 lt));
    }

pub end_sphere-requires-2 : goal.end_sphere-requires-2
end_sphere-requires-2 c =
    let none = with_sphere (cleared c.args.self.now) in
    let so_far = take c.loop-branch.branch c.args.tops.now in
    let starts = ap (λ (s : SphereColumns). length s.starts) c.loop-branch.invariant.begun
    ∙ ap (λ (ns : List ℕ). length ns) (tops_starts so_far 0 none) in
    let room : c.loop-branch.self.place_tree.room ≡ c.args.self.now.place_tree.room = ap (λ (s : SphereColumns). s.place_tree.room)
    c.loop-branch.invariant.begun ∙ tops_room so_far 0 none in
    omega (arith, starts, room, c.requires.some)
