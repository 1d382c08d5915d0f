use Rattle.std.proofs.Common.{◌∙◌}
use Rattle.cip_orient.proofs.lemmas.BondsAtAtoms.{has_either-at}
use Rattle.cip_orient.proofs.marks.has_either.Goals as goal

pub returns : goal.returns
returns c = rw c.bonds_at.ensures at c.is_either_among.ensures ∙ has_either-at c.args.atom c.args.molecule.now.bonds
