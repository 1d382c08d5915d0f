use Rattle.std.proofs.Common.{◌≡◌, ◌<◌, arith, get_or, length, subst}
use Rattle.std.proofs.lemmas.Grind.{common_steps}
use Rattle.cip_digraph.specs.rings.PositionLists.{IsKept}
use Rattle.cip_digraph.proofs.drawing.positions.Positions.of.Goals as goal

pub as_slice-requires : goal.as_slice-requires
as_slice-requires c =
    let within : c.args.vertex < length c.self.inside.lists.items = grind (arith, common_steps) in
    let same : get_or c.self.inside.lists.items c.args.vertex c.in-Some.list.now ≡ c.in-Some.list.now =
    grind (arith, common_steps) in
    subst IsKept same (c.self.invariant c.args.vertex c.in-Some.list.now within)

pub returns-in-Some-clause-list : goal.returns-in-Some-clause-list
returns-in-Some-clause-list c =
    let within : c.args.vertex < length c.self.inside.lists.items = grind (arith, common_steps) in
    let same : get_or c.self.inside.lists.items c.args.vertex c.in-Some.list.now ≡ c.in-Some.list.now =
    grind (arith, common_steps) in
    rw c.as_slice.ensures (subst IsKept same (c.self.invariant c.args.vertex c.in-Some.list.now within)).positions

pub returns-in-Some-clause-value : goal.returns-in-Some-clause-value
returns-in-Some-clause-value c = grind (arith, common_steps)

pub returns-in-None-clause-value : goal.returns-in-None-clause-value
returns-in-None-clause-value c = grind (arith, common_steps)
