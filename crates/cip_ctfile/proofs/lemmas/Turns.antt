-- Items that change a state, one after the other.
use Rattle.std.proofs.Common.{◌≡◌, List, [], ◌∷◌, Result, Ok, Err, refl, sym, ◌∙◌}
use Rattle.cip_ctfile.specs.Turns.{over}

-- one item more
pub over_next : {S X E : Type 0} (step : S → X → Result S E) (state now : S) (items : List X) (x : X) (rest : List X)
    (total : Result S E) → items ≡ x ∷ rest → Ok now ≡ step state x
    → over step state items ≡ total → over step now rest ≡ total
unfolding over
over_next step state now items x rest total is e so_far =
    let one : over step state items ≡ over step now rest = rw (is, ← e) refl in
    sym one ∙ so_far

-- an item is refused
pub over_refused : {S X E : Type 0} (step : S → X → Result S E) (state : S) (fault : E) (items : List X) (x : X)
    (rest : List X) (total : Result S E) → items ≡ x ∷ rest → Err fault ≡ step state x
    → over step state items ≡ total → Err fault ≡ total
unfolding over
over_refused step state fault items x rest total is e so_far =
    let one : over step state items ≡ Err fault = rw (is, ← e) refl in
    sym one ∙ so_far

-- no item is left
pub over_done : {S X E : Type 0} (step : S → X → Result S E) (state : S) (items : List X) (total : Result S E)
    → items ≡ [] → over step state items ≡ total → Ok state ≡ total
unfolding over
over_done step state items total is so_far =
    let one : over step state items ≡ Ok state = rw is refl in
    sym one ∙ so_far
