-- How a refusal is named. Own.
use Rattle.std.specs.Prelude.{ℕ, List, codes}
use Rattle.cip_edit.specs.declared.set_answer.SetRefusal.{SetRefusal}
use Rattle.cip_edit.specs.declared.set_answer.SetRefusal.TheVariants.{Grammar, OnlyV2000, NoCentre, ThreeD, Coincident, NoBond, Over, Tie, OtherKind}

abbrev pub refusal_name : SetRefusal → List ℕ
refusal_name (Grammar fault) = codes "Grammar"
refusal_name OnlyV2000 = codes "OnlyV2000"
refusal_name NoCentre = codes "NoCentre"
refusal_name ThreeD = codes "ThreeD"
refusal_name Coincident = codes "Coincident"
refusal_name NoBond = codes "NoBond"
refusal_name Over = codes "Over"
refusal_name Tie = codes "Tie"
refusal_name (OtherKind small) = codes "OtherKind"
