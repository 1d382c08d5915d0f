use Rattle.cip_set.proofs.lemmas.SetReads.{set_records_are_read}
use Rattle.cip_laws.proofs.drawings.marking.set_records_are_read.Goals as goal

pub returns : goal.returns
returns c = set_records_are_read
