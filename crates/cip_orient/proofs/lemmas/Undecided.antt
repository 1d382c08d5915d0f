-- Where no mark is undecided, what is shown is asked of the rest.
use Rattle.std.proofs.Common.{◌≡◌, Bool, false, ◌||◌, cond, refl}

pub neither : {X : Type 0} (one other : Bool) (x y : X) → one ≡ false → other ≡ false → y ≡ cond (one || other) x y
neither one other x y first second = rw (first, second) refl

pub none : {X : Type 0} (one other crossed : Bool) (x y : X) → one ≡ false → other ≡ false → crossed ≡ false
    → y ≡ cond (one || (other || crossed)) x y
none one other crossed x y first second third = rw (first, second, third) refl
