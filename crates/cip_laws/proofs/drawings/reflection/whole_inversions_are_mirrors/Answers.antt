use Rattle.cip_laws.proofs.lemmas.outcomes.WholeInversions.{whole_inversions_are_mirrors}
use Rattle.cip_laws.proofs.drawings.reflection.whole_inversions_are_mirrors.Goals as goal

pub returns : goal.returns
returns c = whole_inversions_are_mirrors
