use Rattle.std.proofs.Common.{◌∙◌}
use Rattle.cip_orient.proofs.lemmas.BondsAtAtoms.{mark_to-at}
use Rattle.cip_orient.proofs.marks.mark_between.Goals as goal

pub returns : goal.returns
returns c = rw c.bonds_at.ensures at c.mark_to.ensures ∙ mark_to-at c.args.atom c.args.neighbour
    c.args.molecule.now.bonds
