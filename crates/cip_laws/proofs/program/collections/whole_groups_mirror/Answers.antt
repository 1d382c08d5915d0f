use Rattle.cip_laws.proofs.lemmas.turned_groups.TurnedCentres.{whole_groups_mirror}
use Rattle.cip_laws.proofs.program.collections.whole_groups_mirror.Goals as goal

pub returns : goal.returns
returns c = whole_groups_mirror
