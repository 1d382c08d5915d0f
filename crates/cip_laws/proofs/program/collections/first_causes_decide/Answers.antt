use Rattle.cip_laws.proofs.lemmas.turned_groups.Decided.{first_causes_decide}
use Rattle.cip_laws.proofs.program.collections.first_causes_decide.Goals as goal

pub returns : goal.returns
returns c = first_causes_decide
