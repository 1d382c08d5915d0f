use Rattle.cip_mol.proofs.lemmas.OtherEnds.{length-neighbours}
use Rattle.cip_mol.proofs.graph.bonds.BondList.degree.Goals as goal

pub returns : goal.returns
returns c =
    let within = rw (← c.self.view_is) at c.requires in
    rw (← c.self.view_is, c.neighbours.ensures, c.row.ensures, c.self.invariant.0.each c.args.atom within)
    (length-neighbours c.args.atom _)
