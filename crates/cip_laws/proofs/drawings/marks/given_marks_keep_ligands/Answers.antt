use Rattle.cip_laws.proofs.lemmas.marked.MarkedLigands.{given_keep}
use Rattle.cip_laws.proofs.drawings.marks.given_marks_keep_ligands.Goals as goal

pub returns : goal.returns
returns c = given_keep
