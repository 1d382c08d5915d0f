-- The order of three directions is the same from whichever of them it is seen. Plane geometry.
use Rattle.std.proofs.Common.{◌≡◌, ◌≤◌, arith, sym, ◌∙◌, true, false}
use Rattle.std.specs.Prelude.{pos, ◌<ℤ◌}
use Rattle.std.proofs.lemmas.Int.{ints}
use Rattle.cip_num.specs.declared.plane.Vec2.{Vec2}
use Rattle.cip_num.specs.Plane.{cross, dot}
use Rattle.cip_num.specs.Around.{coincide, quarter, precedes}
use Rattle.cip_num.proofs.lemmas.SignsOfProducts.{Signed, negative, null, positive, signed}
use Rattle.cip_num.proofs.lemmas.CrossProducts.{dot_back}
use Rattle.cip_num.proofs.lemmas.Turns.{flat_back, flat_both, ahead_or_behind, right_of_left, left_of_right, opposite_is_left, left_of_opposite}
use Rattle.cip_num.proofs.lemmas.Quarters.{quarter_left, quarter_behind, quarter_right}
use Rattle.cip_num.proofs.lemmas.Coincidence.{not_aligned}
use Rattle.cip_num.proofs.lemmas.StrictOrder.{Met, earlier, alike, met, precedes_from_met}

-- where v lies, seen along a, if it doesn't point the same way
data Seen (a v : Vec2) : Type 0 where
  at_left : quarter a v ≡ 1 → pos 0 <ℤ cross a v → Seen a v
  opposite : quarter a v ≡ 2 → cross a v ≡ pos 0 → dot a v <ℤ pos 0 → Seen a v
  at_right : quarter a v ≡ 3 → cross a v <ℤ pos 0 → Seen a v

is_left : (a v : Vec2) → pos 0 <ℤ cross a v → quarter a v ≡ 1
is_left a v p = quarter_left (cross a v) (dot a v) p

is_opposite : (a v : Vec2) → cross a v ≡ pos 0 → dot a v <ℤ pos 0 → quarter a v ≡ 2
is_opposite a v flat p = quarter_behind (cross a v) (dot a v) flat p

is_right : (a v : Vec2) → cross a v <ℤ pos 0 → quarter a v ≡ 3
is_right a v p = quarter_right (cross a v) (dot a v) p

seen : (a v : Vec2) → pos 0 <ℤ dot a a → pos 0 <ℤ dot v v → coincide a v ≡ false → Seen a v
seen a v aa vv apart = by (signed (cross a v)) (signed (dot a v))
  where
    by : Signed (cross a v) → Signed (dot a v) → Seen a v
    by (positive p) s = at_left (is_left a v p) p
    by (negative p) s = at_right (is_right a v p) p
    by (null p) (negative q) = opposite (is_opposite a v p q) p q
    by (null p) (null q) = absurd (ahead_or_behind a v aa vv p q)
    by (null p) (positive q) = absurd (not_aligned a v apart p q)

not_later : (a b c : Vec2) → Met a b c → quarter a b ≤ quarter a c
not_later a b c (earlier lt) = omega arith
not_later a b c (alike same turn) = omega arith

turns_within : (a b c : Vec2) → Met a b c → quarter a b ≡ quarter a c → pos 0 <ℤ cross b c
turns_within a b c (earlier lt) e = absurd (omega arith)
turns_within a b c (alike same turn) e = turn

-- the cases are those of b seen from a, c from a and c from b
turn_on : (a b c : Vec2) → pos 0 <ℤ dot a a → Met a b c → Seen a b → Seen a c → Seen b c → Met b c a
turn_on a b c aa m (at_left p ab) s (at_left q bc) = earlier (let back = is_right b a (right_of_left a b ab) in omega arith)
turn_on a b c aa m (at_left p ab) s (opposite q bc behind) = earlier (let back = is_right b a (right_of_left a b ab) in omega arith)
turn_on a b c aa m (at_left p ab) (at_right q ac) (at_right t bc) = alike (t ∙ sym (is_right b a (right_of_left a b ab))) (left_of_right a c ac)
turn_on a b c aa m (at_left p ab) (at_left q ac) (at_right t bc) = absurd (let turn = turns_within a b c m (p ∙ sym q) in omega (arith, ints))
turn_on a b c aa m (at_left p ab) (opposite q ac behind) (at_right t bc) = absurd (let turn = opposite_is_left a b c aa ab ac behind in omega (arith, ints))
turn_on a b c aa m (opposite p ab behind) (at_right q ac) s =
    earlier (let there = is_left b c (left_of_opposite a b c aa ab behind ac) in
    let back = is_opposite b a (flat_back a b ab) (rw (dot_back a b) behind) in omega arith)
turn_on a b c aa m (opposite p ab behind) (at_left q ac) s = absurd (let le = not_later a b c m in omega arith)
turn_on a b c aa m (opposite p ab behind) (opposite q ac d) s =
    absurd (let turn = turns_within a b c m (p ∙ sym q) in let flat = flat_both a b c aa ab ac in omega (arith, ints))
turn_on a b c aa m (at_right p ab) (at_right q ac) s =
    alike (is_left b c (turns_within a b c m (p ∙ sym q)) ∙ sym (is_left b a (left_of_right a b ab))) (left_of_right a c ac)
turn_on a b c aa m (at_right p ab) (at_left q ac) s = absurd (let le = not_later a b c m in omega arith)
turn_on a b c aa m (at_right p ab) (opposite q ac d) s = absurd (let le = not_later a b c m in omega arith)

pub order_turns : (a b c : Vec2) → pos 0 <ℤ dot a a → pos 0 <ℤ dot b b → pos 0 <ℤ dot c c → coincide a b ≡ false → coincide a c ≡ false → coincide b c ≡ false → precedes a b c ≡ true → precedes b c a ≡ true
order_turns a b c aa bb cc ab ac bc e =
    precedes_from_met b c a (turn_on a b c aa (met a b c e) (seen a b aa bb ab) (seen a c aa cc ac) (seen b c bb cc bc))
