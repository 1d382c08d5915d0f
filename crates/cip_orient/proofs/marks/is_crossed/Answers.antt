use Rattle.std.proofs.Common.{◌∙◌}
use Rattle.cip_orient.proofs.lemmas.BondsAtAtoms.{is_crossed-at}
use Rattle.cip_orient.proofs.marks.is_crossed.Goals as goal

pub returns : goal.returns
returns c = rw c.bonds_at.ensures at c.is_crossed_among.ensures
    ∙ is_crossed-at c.args.a c.args.b c.args.molecule.now.bonds
