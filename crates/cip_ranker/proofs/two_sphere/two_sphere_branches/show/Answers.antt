use Rattle.std.proofs.Common.{◌≡◌, ◌*◌, length, arith}
use Rattle.std.proofs.lemmas.Grind.{common_steps}
use Rattle.cip_ranker.specs.RootDecisions.{branch_at}
use Rattle.cip_ranker.specs.declared.two_sphere.two_sphere_branches.BranchTop.{BranchTop}
use Rattle.cip_ranker.proofs.lemmas.EdgeKeys.{below_sorted}
use Rattle.cip_ranker.proofs.lemmas.ShownRows.{shown_if, with_keys}
use Rattle.cip_ranker.proofs.two_sphere.two_sphere_branches.show.Goals as goal

pub returns-clause-shown : goal.returns-clause-shown
returns-clause-shown c =
    let root = c.args.root.now in
    let shown = c.args.shown.now in
    let more = c.as_slice.result.now in
    let top : BranchTop = record { vertex = c.args.vertex; key = 6 * c.z_of.result; below = c.len.result } in
    let branch = branch_at root.graph.now root.positions.now root.at c.args.vertex in
    let many : length more ≡ c.len.result = grind (arith, common_steps) in
    let is : with_keys top more ≡ branch = grind (arith, below_sorted) in
    shown_if c.extend_from_slice.result shown.tops.items c.push.new.self.items shown.keys.items more
    c.extend_from_slice.new.self.items top branch c.in-Ok-push.ensures.items c.extend_from_slice.ensures.items
    c.requires.all many is
