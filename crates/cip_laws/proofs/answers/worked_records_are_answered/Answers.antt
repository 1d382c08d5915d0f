use Rattle.cip_laws.proofs.lemmas.answered.Answered.{worked_answers}
use Rattle.cip_laws.proofs.answers.worked_records_are_answered.Goals as goal

pub returns : goal.returns
returns c = worked_answers
