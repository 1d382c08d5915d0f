use Rattle.cip_laws.proofs.lemmas.lines.Going.{records_go}
use Rattle.cip_laws.proofs.readers.records.records_go.Goals as goal

pub returns : goal.returns
returns c = records_go
