-- Exchanging two ligands turns the sense of a centre drawn in space.
use Rattle.std.proofs.Common.{◌≡◌, arith, ap, ◌∙◌, [], ◌∷◌}
use Rattle.std.specs.Prelude.{ℤ, ◌-ℤ◌, neg_ℤ}
use Rattle.std.proofs.lemmas.Int.{ints}
use Rattle.cip_num.specs.declared.plane.Vec3.{Vec3}
use Rattle.cip_num.specs.Signs.{sign_of}
use Rattle.cip_num.specs.Space.{determinant, negated, apart}
use Rattle.cip_num.proofs.lemmas.Signs.{sign_of-neg}
use Rattle.cip_laws.proofs.lemmas.senses.Determinants.{determinant-exchanged_first, determinant-exchanged_last, determinant-negated_third, determinant-apart}
use Rattle.cip_mol.specs.Senses.{shown_by, other_way}
use Rattle.cip_mol.specs.Points.{step}
use Rattle.cip_mol.specs.SpatialCentres.{in_space}
use Rattle.cip_laws.proofs.lemmas.senses.ReflectedCentres.{shown_by-opposite}

by_coordinates : (a b : Vec3) → a.x ≡ b.x → a.y ≡ b.y → a.z ≡ b.z → a ≡ b
by_coordinates a b e f g =
    ap (λ x. record { x = x; y = a.y; z = a.z }) e ∙ ap (λ y. record { x = b.x; y = y; z = a.z }) f ∙ ap (λ z. record { x = b.x; y = b.y; z = z }) g

difference_apart : (p q r : ℤ) → p -ℤ q ≡ (p -ℤ r) -ℤ (q -ℤ r)
difference_apart p q r = omega (arith, ints)

step_apart : (p q r : Vec3) → step q p ≡ apart (step r p) (step r q)
step_apart p q r = by_coordinates (step q p) (apart (step r p) (step r q)) (difference_apart p.x q.x r.x) (difference_apart p.y q.y r.y) (difference_apart p.z q.z r.z)

difference_back : (p q : ℤ) → q -ℤ p ≡ neg_ℤ (p -ℤ q)
difference_back p q = omega (arith, ints)

pub step_back : (p q : Vec3) → step p q ≡ negated (step q p)
step_back p q = by_coordinates (step p q) (negated (step q p)) (difference_back p.x q.x) (difference_back p.y q.y) (difference_back p.z q.z)

turned_by : (d e : ℤ) → e ≡ neg_ℤ d → shown_by (sign_of e) ≡ other_way (shown_by (sign_of d))
turned_by d e is = ap (λ n. shown_by (sign_of n)) is ∙ ap shown_by (sign_of-neg d) ∙ shown_by-opposite (sign_of d)

-- the fourth point takes the place of the third
last_two : (p q r s : Vec3) → determinant (step r p) (step r q) (step r s) ≡ neg_ℤ (determinant (step s p) (step s q) (step s r))
last_two p q r s =
    ap (λ a. determinant a (step r q) (step r s)) (step_apart p r s)
    ∙ ap (λ b. determinant (apart (step s p) (step s r)) b (step r s)) (step_apart q r s)
    ∙ ap (λ c. determinant (apart (step s p) (step s r)) (apart (step s q) (step s r)) c) (step_back r s)
    ∙ determinant-negated_third (apart (step s p) (step s r)) (apart (step s q) (step s r)) (step s r)
    ∙ ap neg_ℤ (determinant-apart (step s p) (step s q) (step s r))

module _ (centre p q r s : Vec3) where
  pub first_of_three : in_space centre (q ∷ p ∷ r ∷ []) ≡ other_way (in_space centre (p ∷ q ∷ r ∷ []))
  first_of_three = turned_by _ _ (determinant-exchanged_first (step centre p) (step centre q) (step centre r))

  pub last_of_three : in_space centre (p ∷ r ∷ q ∷ []) ≡ other_way (in_space centre (p ∷ q ∷ r ∷ []))
  last_of_three = turned_by _ _ (determinant-exchanged_last (step centre p) (step centre q) (step centre r))

  pub first_of_four : in_space centre (q ∷ p ∷ r ∷ s ∷ []) ≡ other_way (in_space centre (p ∷ q ∷ r ∷ s ∷ []))
  first_of_four = turned_by _ _ (determinant-exchanged_first (step s p) (step s q) (step s r))

  pub middle_of_four : in_space centre (p ∷ r ∷ q ∷ s ∷ []) ≡ other_way (in_space centre (p ∷ q ∷ r ∷ s ∷ []))
  middle_of_four = turned_by _ _ (determinant-exchanged_last (step s p) (step s q) (step s r))

  pub last_of_four : in_space centre (p ∷ q ∷ s ∷ r ∷ []) ≡ other_way (in_space centre (p ∷ q ∷ r ∷ s ∷ []))
  last_of_four = turned_by _ _ (last_two p q r s)
