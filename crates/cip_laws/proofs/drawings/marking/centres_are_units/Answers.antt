use Rattle.cip_edit.proofs.lemmas.CentrePlaces.{has_place, place_has}
use Rattle.cip_laws.proofs.drawings.marking.centres_are_units.Goals as goal

pub returns : goal.returns
returns c = λ drawing atom. (has_place drawing atom, λ found. place_has drawing atom found.0 found.1)
