use Rattle.cip_edit.proofs.lemmas.RemarkedCentres as law
use Rattle.cip_laws.proofs.drawings.marking.senses_turn_letters.Goals as goal

pub returns : goal.returns
returns c = law.senses_turn
