use Rattle.std.proofs.Common.{◌∙◌, ap, map, arith}
use Rattle.cip_digraph.specs.rings.PositionLists.{listed}
use Rattle.cip_digraph.proofs.lemmas.lists.Positions.{copies_listed}
use Rattle.std.proofs.lemmas.Grind.{common_steps}
use Rattle.cip_digraph.proofs.drawing.positions.Positions.none.Goals as goal

pub returns-in-Ok : goal.returns-in-Ok
returns-in-Ok c = ap (map listed) (c.in-Ok.ensures.items_if_clones_equal (λ list same. same)) ∙ copies_listed c.args.vertices _

pub invariant_of-result : goal.invariant_of-result
invariant_of-result c = grind (arith, common_steps)
