use Rattle.cip_laws.proofs.lemmas.marked.GivenMarks.{given_keep}
use Rattle.cip_laws.proofs.drawings.marks.given_marks_keep_orders.Goals as goal

pub returns : goal.returns
returns c = given_keep
