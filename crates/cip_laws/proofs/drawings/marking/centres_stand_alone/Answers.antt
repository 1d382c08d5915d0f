use Rattle.cip_digraph.specs.units.Ends.{end_at}
use Rattle.cip_edit.proofs.lemmas.CentreOutcomes.{cost_stays, outcome_same}
use Rattle.cip_laws.proofs.drawings.marking.centres_stand_alone.Goals as goal

pub returns : goal.returns
returns c = λ rules graph positions at all others same. record {
  costs = λ ligands. cost_stays rules graph positions at all others same (end_at at ligands);
  outcomes = λ bound ligands geometry. outcome_same rules graph positions at all others same bound ligands geometry;
}
