use Rattle.cip_v2000.proofs.lemmas.Settling.{atoms_settled}
use Rattle.cip_laws.proofs.readers.v2000.last_statements_hold.Goals as goal

pub returns : goal.returns
returns c = atoms_settled
