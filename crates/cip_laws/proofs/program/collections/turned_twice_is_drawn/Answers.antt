use Rattle.cip_laws.proofs.lemmas.turned_groups.TurnedCentres.{turned_twice_is_drawn}
use Rattle.cip_laws.proofs.program.collections.turned_twice_is_drawn.Goals as goal

pub returns : goal.returns
returns c = turned_twice_is_drawn
