use Rattle.cip_laws.proofs.lemmas.lines.Going.{records_mirror}
use Rattle.cip_laws.proofs.readers.records.records_mirror.Goals as goal

pub returns : goal.returns
returns c = records_mirror
