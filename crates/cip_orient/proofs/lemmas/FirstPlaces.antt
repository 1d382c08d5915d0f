-- Of some directions the first is met first.
use Rattle.std.proofs.Common.{◌≡◌, ◌<◌, List, [], ◌∷◌, length, map, take, sym, ap, arith}
use Rattle.cip_num.specs.declared.plane.Vec2.{Vec2}
use Rattle.cip_num.specs.Around.{place}
use Rattle.cip_num.proofs.lemmas.Places.{first_place}

pub first_listed : (directions : List Vec2) → 0 < length directions
    → 0 ∷ [] ≡ map (place directions) (take 1 directions)
first_listed [] some = absurd (omega (arith, some))
first_listed (direction ∷ directions) some = ap (λ n. n ∷ []) (sym (first_place (direction ∷ directions)))
