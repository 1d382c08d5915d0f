-- What turns between directions say of other turns. Plane geometry.
use Rattle.std.proofs.Common.{◌≡◌, arith, refl}
use Rattle.std.specs.Prelude.{ℤ, pos, ◌*ℤ◌, ◌+ℤ◌, ◌-ℤ◌, neg_ℤ, ◌<ℤ◌, ◌≤ℤ◌}
use Rattle.std.proofs.lemmas.Int.{ints}
use Rattle.cip_num.specs.declared.plane.Vec2.{Vec2}
use Rattle.cip_num.specs.Plane.{cross, dot}
use Rattle.cip_num.proofs.lemmas.SignsOfProducts.{positive_by_positive, positive_by_negative, negative_by_positive, negative_by_negative, square_not_negative, cofactor_positive, cofactor_of_negative, cofactor_zero}
use Rattle.cip_num.proofs.lemmas.CrossProducts.{cross_back, dot_back, cross_of_four, cross_through, dot_through}

sum_positive : (a b c : ℤ) → c ≡ a +ℤ b → pos 0 <ℤ a → pos 0 <ℤ b → pos 0 <ℤ c
sum_positive a b c is p q = omega (arith, ints)

sum_negative : (a b c : ℤ) → c ≡ a +ℤ b → a <ℤ pos 0 → b <ℤ pos 0 → c <ℤ pos 0
sum_negative a b c is p q = omega (arith, ints)

-- in each half plane, turning left goes on
pub left_goes_on : (r a b c : Vec2) → pos 0 <ℤ cross r a → pos 0 <ℤ cross r b → pos 0 <ℤ cross r c → pos 0 <ℤ cross a b → pos 0 <ℤ cross b c → pos 0 <ℤ cross a c
left_goes_on r a b c ra rb rc ab bc =
    cofactor_positive (cross r b) (cross a c) rb
    (sum_positive (cross r a *ℤ cross b c) (cross r c *ℤ cross a b) _ (cross_of_four r a b c) (positive_by_positive _ _ ra bc) (positive_by_positive _ _ rc ab))

pub right_goes_on : (r a b c : Vec2) → cross r a <ℤ pos 0 → cross r b <ℤ pos 0 → cross r c <ℤ pos 0 → pos 0 <ℤ cross a b → pos 0 <ℤ cross b c → pos 0 <ℤ cross a c
right_goes_on r a b c ra rb rc ab bc =
    cofactor_of_negative (cross r b) (cross a c) rb
    (sum_negative (cross r a *ℤ cross b c) (cross r c *ℤ cross a b) _ (cross_of_four r a b c) (negative_by_positive _ _ ra bc) (negative_by_positive _ _ rc ab))

-- what is left of a sum of products where one factor is zero
without_first : (z a b c : ℤ) → z ≡ pos 0 → (a *ℤ z) +ℤ b ≡ c → b ≡ c
without_first z a b c none is = let known : (a *ℤ pos 0) +ℤ b ≡ c = rw none at is in omega (arith, ints)

without_second : (z a b c : ℤ) → z ≡ pos 0 → b +ℤ (z *ℤ a) ≡ c → b ≡ c
without_second z a b c none is = let known : b +ℤ (pos 0 *ℤ a) ≡ c = rw none at is in omega (arith, ints)

without_subtracted : (z a b c : ℤ) → z ≡ pos 0 → b -ℤ (z *ℤ a) ≡ c → b ≡ c
without_subtracted z a b c none is = let known : b -ℤ (pos 0 *ℤ a) ≡ c = rw none at is in omega (arith, ints)

-- on the line of r
pub flat_back : (r a : Vec2) → cross r a ≡ pos 0 → cross a r ≡ pos 0
flat_back r a ra = rw (cross_back r a, ra) refl

pub flat_both : (r a b : Vec2) → pos 0 <ℤ dot r r → cross r a ≡ pos 0 → cross r b ≡ pos 0 → cross a b ≡ pos 0
flat_both r a b rr ra rb =
    let first : cross a r *ℤ dot r b ≡ dot r r *ℤ cross a b = without_first (cross r b) (dot a r) _ _ rb (cross_through a r b) in
    let none : pos 0 *ℤ dot r b ≡ dot r r *ℤ cross a b = rw (flat_back r a ra) at first in
    cofactor_zero (dot r r) (cross a b) rr (omega (arith, ints))

flat_dot : (r a b : Vec2) → cross r a ≡ pos 0 → dot r a *ℤ dot r b ≡ dot r r *ℤ dot a b
flat_dot r a b ra = rw (dot_back a r) (without_subtracted (cross a r) (cross r b) _ _ (flat_back r a ra) (dot_through a r b))

pub ahead_both : (r a b : Vec2) → pos 0 <ℤ dot r r → cross r a ≡ pos 0 → pos 0 <ℤ dot r a → pos 0 <ℤ dot r b → pos 0 <ℤ dot a b
ahead_both r a b rr ra da db = cofactor_positive (dot r r) (dot a b) rr (rw (flat_dot r a b ra) at (positive_by_positive _ _ da db))

pub behind_both : (r a b : Vec2) → pos 0 <ℤ dot r r → cross r a ≡ pos 0 → dot r a <ℤ pos 0 → dot r b <ℤ pos 0 → pos 0 <ℤ dot a b
behind_both r a b rr ra da db = cofactor_positive (dot r r) (dot a b) rr (rw (flat_dot r a b ra) at (negative_by_negative _ _ da db))

no_square : (a b c : ℤ) → a ≡ pos 0 → a *ℤ a ≡ b *ℤ c → pos 0 <ℤ b → c ≡ pos 0
no_square a b c none is p = let known : pos 0 *ℤ pos 0 ≡ b *ℤ c = rw none at is in cofactor_zero b c p (omega (arith, ints))

pub ahead_or_behind : (r a : Vec2) → pos 0 <ℤ dot r r → pos 0 <ℤ dot a a → cross r a ≡ pos 0 → dot r a ≡ pos 0 → ⊥
ahead_or_behind r a rr aa ra da = let none = no_square (dot r a) (dot r r) (dot a a) da (flat_dot r a a ra) rr in omega (arith, ints)

pub length_not_negative : (v : Vec2) → pos 0 ≤ℤ dot v v
length_not_negative v = both (v.x *ℤ v.x) (v.y *ℤ v.y) (square_not_negative v.x) (square_not_negative v.y)
  where
    both : (a b : ℤ) → pos 0 ≤ℤ a → pos 0 ≤ℤ b → pos 0 ≤ℤ (a +ℤ b)
    both a b p q = omega (arith, ints)

-- in each half plane, directions without a turn point the same way
pub left_aligned : (r v w : Vec2) → pos 0 <ℤ dot v v → pos 0 <ℤ cross r v → pos 0 <ℤ cross r w → cross v w ≡ pos 0 → pos 0 <ℤ dot v w
left_aligned r v w vv left_v left_w flat =
    let only : cross r v *ℤ dot v w ≡ dot v v *ℤ cross r w = without_first (cross v w) (dot r v) _ _ flat (cross_through r v w) in
    cofactor_positive (cross r v) (dot v w) left_v (rw only (positive_by_positive _ _ vv left_w))

pub right_aligned : (r v w : Vec2) → pos 0 <ℤ dot v v → cross r v <ℤ pos 0 → cross r w <ℤ pos 0 → cross v w ≡ pos 0 → pos 0 <ℤ dot v w
right_aligned r v w vv right_v right_w flat =
    let only : cross r v *ℤ dot v w ≡ dot v v *ℤ cross r w = without_first (cross v w) (dot r v) _ _ flat (cross_through r v w) in
    cofactor_of_negative (cross r v) (dot v w) right_v (rw only (positive_by_negative _ _ vv right_w))

negated_positive : (a : ℤ) → pos 0 <ℤ a → neg_ℤ a <ℤ pos 0
negated_positive a p = omega (arith, ints)

negated_negative : (a : ℤ) → a <ℤ pos 0 → pos 0 <ℤ neg_ℤ a
negated_negative a p = omega (arith, ints)

pub right_of_left : (u v : Vec2) → pos 0 <ℤ cross u v → cross v u <ℤ pos 0
right_of_left u v p = rw (cross_back u v) (negated_positive (cross u v) p)

pub left_of_right : (u v : Vec2) → cross u v <ℤ pos 0 → pos 0 <ℤ cross v u
left_of_right u v p = rw (cross_back u v) (negated_negative (cross u v) p)

-- what lies opposite a is left of what lies left of a
pub opposite_is_left : (a b c : Vec2) → pos 0 <ℤ dot a a → pos 0 <ℤ cross a b → cross a c ≡ pos 0 → dot a c <ℤ pos 0 → pos 0 <ℤ cross b c
opposite_is_left a b c aa ab ac behind =
    let only : cross b a *ℤ dot a c ≡ dot a a *ℤ cross b c = without_first (cross a c) (dot b a) _ _ ac (cross_through b a c) in
    cofactor_positive (dot a a) (cross b c) aa (rw only at (negative_by_negative _ _ (right_of_left a b ab) behind))

-- what lies right of a is left of what lies opposite a
pub left_of_opposite : (a b c : Vec2) → pos 0 <ℤ dot a a → cross a b ≡ pos 0 → dot a b <ℤ pos 0 → cross a c <ℤ pos 0 → pos 0 <ℤ cross b c
left_of_opposite a b c aa ab behind ac =
    let only : dot b a *ℤ cross a c ≡ dot a a *ℤ cross b c = without_second (cross b a) (dot a c) _ _ (flat_back a b ab) (cross_through b a c) in
    let back : dot b a <ℤ pos 0 = rw (dot_back a b) behind in
    cofactor_positive (dot a a) (cross b c) aa (rw only at (negative_by_negative _ _ back ac))
