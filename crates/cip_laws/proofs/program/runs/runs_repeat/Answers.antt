use Rattle.cip_laws.proofs.lemmas.done.RunsAgain.{runs_repeat}
use Rattle.cip_laws.proofs.program.runs.runs_repeat.Goals as goal

pub returns : goal.returns
returns c = runs_repeat
