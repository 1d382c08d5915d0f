use Rattle.cip_laws.proofs.lemmas.senses.RunningOrder as law
use Rattle.cip_laws.proofs.drawings.directions.order_runs.Goals as goal

pub returns : goal.returns
returns c = law.order_runs
