use Rattle.cip_laws.proofs.lemmas.graph.DelocalisedEnds.{several_in_rings}
use Rattle.cip_laws.proofs.ranking.rings.delocalised_atoms_lie_in_rings.Goals as goal

pub returns : goal.returns
returns c = λ graph vertex sound here. several_in_rings graph sound vertex here
