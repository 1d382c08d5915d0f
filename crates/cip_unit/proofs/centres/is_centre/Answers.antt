use Rattle.std.proofs.Common.{◌≡◌, length, arith}
use Rattle.std.specs.Prelude.{nat_le}
use Rattle.cip_digraph.specs.units.Centres.{drawn_neighbours}
use Rattle.cip_digraph.proofs.lemmas.bonds.Neighbours.{neighbours_ascend}
use Rattle.cip_unit.proofs.lemmas.ThirdNeighbours.{third_tells}
use Rattle.std.proofs.lemmas.Grind.{common_steps}
use Rattle.cip_unit.proofs.centres.is_centre.Goals as goal

pub returns-then-has_centre_bonds : goal.returns-then-has_centre_bonds
returns-then-has_centre_bonds c =
    let three : c.leads_to_drawn.result ≡ nat_le 3 (length (drawn_neighbours c.args.graph.now c.args.atom)) =
    rw (c.leads_to_drawn.ensures, c.edges_at-then-has_centre_bonds.ensures.value, c.drawn.ensures.value)
    (third_tells c.args.atom c.args.graph.now.drawn _
    (neighbours_ascend c.args.graph.now c.edges_at-then-has_centre_bonds.ensures.sound c.args.atom)) in
    grind (arith, common_steps)

pub returns-else-has_centre_bonds : goal.returns-else-has_centre_bonds
returns-else-has_centre_bonds c = grind (arith, common_steps)
