use Rattle.cip_batch.proofs.lemmas.Dividing.{streams_divide}
use Rattle.cip_laws.proofs.program.streams.streams_divide.Goals as goal

pub returns : goal.returns
returns g c = streams_divide {N = g.row.N.Denot}
