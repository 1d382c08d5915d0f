use Rattle.cip_digraph.proofs.lemmas.tree.Branches.{ligands_end}
use Rattle.cip_laws.proofs.ranking.digraphs.branches_end.Goals as goal

pub returns : goal.returns
returns c rules graph positions mark root sound lt = ligands_end graph positions root sound lt rules mark
