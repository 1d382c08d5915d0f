use Rattle.std.proofs.Common.{◌≡◌, ◌∙◌, ap, map, set, arith}
use Rattle.std.proofs.lemmas.List.{map-set}
use Rattle.cip_digraph.specs.rings.PositionLists.{listed}
use Rattle.std.proofs.lemmas.Grind.{common_steps}
use Rattle.cip_digraph.proofs.drawing.positions.Positions.set.Goals as goal

pub returns : goal.returns
returns c =
    let same : map listed (set c.self.inside.lists.items c.args.vertex c.list_of.result)
    ≡ set (map listed c.self.inside.lists.items) c.args.vertex c.args.positions.now =
    map-set listed c.self.inside.lists.items c.args.vertex c.list_of.result
    ∙ ap (set (map listed c.self.inside.lists.items) c.args.vertex) c.list_of.ensures.value in
    rw (← c.self.view_is) same

pub index_mut-requires : goal.index_mut-requires
index_mut-requires c = grind (arith, common_steps)
