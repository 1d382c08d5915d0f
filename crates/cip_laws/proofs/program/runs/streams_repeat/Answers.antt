use Rattle.cip_laws.proofs.lemmas.done.StreamsAgain.{streams_repeat}
use Rattle.cip_laws.proofs.program.runs.streams_repeat.Goals as goal

pub returns : goal.returns
returns c = streams_repeat
