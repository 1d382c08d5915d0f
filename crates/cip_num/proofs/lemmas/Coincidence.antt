-- Coincidence of directions: what it says of their products, and that it holds both ways. Plane geometry.
use Rattle.std.proofs.Common.{◌≡◌, arith, refl, ◌∙◌, ap, true, false}
use Rattle.std.specs.Prelude.{ℤ, pos, negsuc, zero, suc, neg_ℤ, ◌<ℤ◌, ◌&&◌}
use Rattle.cip_num.specs.declared.plane.Vec2.{Vec2}
use Rattle.cip_num.specs.Signs.{sign_of, is_zero, is_plus}
use Rattle.cip_num.specs.Plane.{cross, dot}
use Rattle.cip_num.specs.Around.{coincide}
use Rattle.cip_num.proofs.lemmas.CrossProducts.{cross_back, dot_back}
use Rattle.cip_num.proofs.lemmas.Quarters.{plus_from_positive}

pub not_aligned : (u v : Vec2) → coincide u v ≡ false → cross u v ≡ pos 0 → pos 0 <ℤ dot u v → ⊥
not_aligned u v apart flat same =
    let first : is_zero (sign_of (cross u v)) ≡ true = rw flat refl in
    let second = plus_from_positive (dot u v) same in
    grind arith

pub coincide_back : (u v : Vec2) → coincide v u ≡ coincide u v
coincide_back u v =
    ap (λ d. is_zero (sign_of (cross v u)) && is_plus (sign_of d)) (dot_back u v)
    ∙ ap (λ flat. flat && is_plus (sign_of (dot u v))) (ap (λ c. is_zero (sign_of c)) (cross_back u v) ∙ zero_back (cross u v))
  where
    zero_back : (c : ℤ) → is_zero (sign_of (neg_ℤ c)) ≡ is_zero (sign_of c)
    zero_back (pos zero) = refl
    zero_back (pos (suc c)) = refl
    zero_back (negsuc c) = refl
