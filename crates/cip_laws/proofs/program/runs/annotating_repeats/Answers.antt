use Rattle.cip_laws.proofs.lemmas.done.Repeating.{annotating_repeats}
use Rattle.cip_laws.proofs.program.runs.annotating_repeats.Goals as goal

pub returns : goal.returns
returns c = annotating_repeats
