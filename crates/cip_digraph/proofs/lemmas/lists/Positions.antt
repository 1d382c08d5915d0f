-- Lists of positions: the list of none, and copies of one list.
use Rattle.std.proofs.Common.{◌≡◌, ℕ, zero, suc, [], ◌∷◌, ap, arith, map, refl, replicate}
use Rattle.cip_digraph.specs.declared.drawing.positions.PositionList.{PositionList}
use Rattle.cip_digraph.specs.rings.PositionLists.{IsPositionList, listed}

pub none_listed : IsPositionList []
none_listed = record { ascending = λ i j d lt within. absurd (omega (arith, within)); few = omega arith }

-- n times the same list
pub copies_listed : (n : ℕ) (list : PositionList) → map listed (replicate n list) ≡ replicate n (listed list)
copies_listed zero list = refl
copies_listed (suc n) list = ap (λ lists. listed list ∷ lists) (copies_listed n list)
