use Rattle.std.proofs.Common.{length}
use Rattle.cip_mol.proofs.lemmas.SoundBonds.{AreFew, neighbours_few}
use Rattle.cip_mol.proofs.graph.molecule.Molecule.neighbours.Goals as goal

few : (c : goal.After-neighbours) → AreFew (length c.args.self.now.atoms) c.neighbours.result.now
few c =
    let within = rw (← c.self.view_is) at c.requires in
    rw (← c.self.view_is, c.neighbours.ensures, c.row.ensures, c.self.invariant.2.each c.args.atom within) (neighbours_few _ _ _ c.self.invariant.1)

pub returns-clause-within : goal.returns-clause-within
returns-clause-within c = (few c).within

pub returns-clause-few : goal.returns-clause-few
returns-clause-few c = (few c).few
