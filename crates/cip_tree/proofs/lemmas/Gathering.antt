-- Branches as a list, and gathered from it.
use Rattle.std.proofs.Common.{◌≡◌, List, [], ◌∷◌, refl, ap}
use Rattle.cip_tree.specs.Branches.{Branches, Branch, none, more, gathered, listed}

pub listed_gathered : (branches : List Branch) → listed (gathered branches) ≡ branches
listed_gathered [] = refl
listed_gathered (branch ∷ branches) = ap (λ bs. branch ∷ bs) (listed_gathered branches)

pub gathered_listed : (branches : Branches) → gathered (listed branches) ≡ branches
gathered_listed none = refl
gathered_listed (more label below others) = ap (λ bs. more label below bs) (gathered_listed others)
