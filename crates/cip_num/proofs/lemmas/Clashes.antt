-- Directions of a list without a clash: none is zero, and no two coincide. Plane geometry.
use Rattle.std.proofs.Common.{◌≡◌, ◌⊎◌, ◌<◌, ℕ, inl, inr, arith, refl, ◌∙◌, List, [], ◌∷◌, length, get_or, Bool, true, false}
use Rattle.std.specs.Prelude.{pos, zero, suc, ◌≢◌, ◌<ℤ◌, ◌≤ℤ◌, ◌||◌}
use Rattle.std.specs.List.{list_any}
use Rattle.std.proofs.lemmas.Int.{ints}
use Rattle.std.proofs.lemmas.Bool.{cases_order}
use Rattle.std.proofs.lemmas.Grind.{common_steps}
use Rattle.cip_num.specs.declared.plane.Vec2.{Vec2}
use Rattle.cip_num.specs.Signs.{sign_of, is_zero}
use Rattle.cip_num.specs.Plane.{dot}
use Rattle.cip_num.specs.Around.{coincide, has_coincident, direction_at}
use Rattle.cip_num.proofs.lemmas.SignsOfProducts.{Signed, negative, null, positive, signed}
use Rattle.cip_num.proofs.lemmas.Turns.{length_not_negative}
use Rattle.cip_num.proofs.lemmas.Coincidence.{coincide_back}

record Clears (d : Vec2) (ds : List Vec2) : Type 0 where
  long : is_zero (sign_of (dot d d)) ≡ false
  apart : list_any (λ other. coincide d other) ds ≡ false
  rest : has_coincident ds ≡ false

clears : (d : Vec2) (ds : List Vec2) → has_coincident (d ∷ ds) ≡ false → Clears d ds
clears d ds e = by (none (is_zero (sign_of (dot d d))) (list_any (λ other. coincide d other) ds) (has_coincident ds) e)
  where
    none : (a b c : Bool) → (a || b || c) ≡ false → (a ≡ false) × (b ≡ false) × (c ≡ false)
    none a b c e = grind arith

    by : (is_zero (sign_of (dot d d)) ≡ false) × (list_any (λ other. coincide d other) ds ≡ false) × (has_coincident ds ≡ false) → Clears d ds
    by three = record { long = three.0; apart = three.1; rest = three.2 }

none_passes : (p : Vec2 → Bool) (ds : List Vec2) (i : ℕ) (d : Vec2) → i < length ds → list_any p ds ≡ false → p (get_or ds i d) ≡ false
none_passes p [] i d lt e = absurd (omega arith)
none_passes p (x ∷ ds) zero d lt e = grind (arith, common_steps)
none_passes p (x ∷ ds) (suc i) d lt e = none_passes p ds i d (omega arith) (grind (arith, common_steps))

pub has_length : (ds : List Vec2) (i : ℕ) → has_coincident ds ≡ false → i < length ds → pos 0 <ℤ dot (direction_at ds i) (direction_at ds i)
has_length [] i e lt = absurd (omega arith)
has_length (d ∷ ds) zero e lt = by (signed (dot d d)) (length_not_negative d)
  where
    by : Signed (dot d d) → pos 0 ≤ℤ dot d d → pos 0 <ℤ dot d d
    by (positive p) le = p
    by (negative p) le = absurd (omega (arith, ints))
    by (null p) le =
        let none : is_zero (sign_of (dot d d)) ≡ true = rw p refl in
        let long = (clears d ds e).long in
        absurd (grind arith)
has_length (d ∷ ds) (suc i) e lt = has_length ds i (clears d ds e).rest (omega arith)

apart_below : (ds : List Vec2) (i j : ℕ) → has_coincident ds ≡ false → i < j → j < length ds → coincide (direction_at ds i) (direction_at ds j) ≡ false
apart_below [] i j e lt within = absurd (omega arith)
apart_below (d ∷ ds) i zero e lt within = absurd (omega arith)
apart_below (d ∷ ds) zero (suc j) e lt within = none_passes (λ other. coincide d other) ds j _ (omega arith) (clears d ds e).apart
apart_below (d ∷ ds) (suc i) (suc j) e lt within = apart_below ds i j (clears d ds e).rest (omega arith) (omega arith)

pub are_apart : (ds : List Vec2) (i j : ℕ) → has_coincident ds ≡ false → i < length ds → j < length ds → i ≢ j → coincide (direction_at ds i) (direction_at ds j) ≡ false
are_apart ds i j e il jl far = by (cases_order i j)
  where
    by : (i ≡ j) ⊎ ((i < j) ⊎ (j < i)) → coincide (direction_at ds i) (direction_at ds j) ≡ false
    by (inl same) = absurd (far same)
    by (inr (inl lt)) = apart_below ds i j e lt jl
    by (inr (inr lt)) = coincide_back (direction_at ds j) (direction_at ds i) ∙ apart_below ds j i e lt il
