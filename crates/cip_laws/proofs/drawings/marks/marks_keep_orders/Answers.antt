use Rattle.cip_laws.proofs.lemmas.marked.KeptMarks.{marks_keep}
use Rattle.cip_laws.proofs.drawings.marks.marks_keep_orders.Goals as goal

pub returns : goal.returns
returns c = marks_keep
