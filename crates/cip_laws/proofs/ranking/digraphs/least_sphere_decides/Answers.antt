use Rattle.cip_digraph.proofs.lemmas.orders.LeastSphere.{least_decides}
use Rattle.cip_laws.proofs.ranking.digraphs.least_sphere_decides.Goals as goal

pub returns : goal.returns
returns c = least_decides
