use Rattle.std.proofs.Common.{◌∙◌}
use Rattle.cip_mol.proofs.lemmas.OtherEnds.{list_any-neighbours}
use Rattle.cip_mol.proofs.graph.bonds.BondList.joins.Goals as goal

pub returns : goal.returns
returns c =
    let within = rw (← c.self.view_is) at c.requires in
    let at_a = rw (c.row.ensures, c.self.invariant.0.each _ within) at c.neighbours.ensures in
    rw (← c.self.view_is) (rw at_a at c.contains.ensures.value ∙ list_any-neighbours c.args.bond.now _)
