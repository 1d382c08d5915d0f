use Rattle.cip_edit.proofs.lemmas.RemarkedCentres as law
use Rattle.cip_laws.proofs.drawings.marking.marks_keep_ranks.Goals as goal

pub returns : goal.returns
returns c = law.keeps_ranks
