use Rattle.cip_mol.proofs.lemmas.Placing.{StandAtPlaces}
use Rattle.cip_mol.proofs.renumbering.placed.Given as goal

abbrev pub invariant-loop-k : goal.invariant-loop-k
invariant-loop-k g l = StandAtPlaces l.places l.items l.k l.there.items
