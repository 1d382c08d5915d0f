-- Determinants and products of cross products, where rows are negated, mirrored or exchanged. Solid geometry.
use Rattle.std.proofs.Common.{◌≡◌, arith}
use Rattle.std.specs.Prelude.{ℤ, pos, neg_ℤ, ◌+ℤ◌, ◌-ℤ◌, ◌*ℤ◌}
use Rattle.std.proofs.lemmas.Int.{ints}
use Rattle.cip_num.specs.declared.plane.Vec3.{Vec3}
use Rattle.cip_num.specs.Space.{minor, determinant, facing, negated, apart, mirrored}
use Rattle.cip_num.proofs.lemmas.Ring.{mul_comm, mul_neg, mul_sub, sub_mul, neg_mul, neg_by_neg, to_front, turned_round}

minor-neg_row : (p q r s : ℤ) → minor (neg_ℤ p) (neg_ℤ q) r s ≡ neg_ℤ (minor p q r s)
minor-neg_row p q r s = rw (neg_mul p s, neg_mul q r) (omega (arith, ints))

minor-neg_last_row : (p q r s : ℤ) → minor p q (neg_ℤ r) (neg_ℤ s) ≡ neg_ℤ (minor p q r s)
minor-neg_last_row p q r s = rw (mul_neg p s, mul_neg q r) (omega (arith, ints))

minor-neg_column : (p q r s : ℤ) → minor (neg_ℤ p) q (neg_ℤ r) s ≡ neg_ℤ (minor p q r s)
minor-neg_column p q r s = rw (neg_mul p s, mul_neg q r) (omega (arith, ints))

minor-neg_last_column : (p q r s : ℤ) → minor p (neg_ℤ q) r (neg_ℤ s) ≡ neg_ℤ (minor p q r s)
minor-neg_last_column p q r s = rw (mul_neg p s, neg_mul q r) (omega (arith, ints))

three_negs : (a b c : ℤ) → (neg_ℤ a +ℤ neg_ℤ b) +ℤ neg_ℤ c ≡ neg_ℤ ((a +ℤ b) +ℤ c)
three_negs a b c = omega (arith, ints)

-- a determinant by its minors, each of them negated
minors_negated : (a : Vec3) (x y z : ℤ) → ((a.x *ℤ neg_ℤ x) +ℤ (a.y *ℤ neg_ℤ y)) +ℤ (a.z *ℤ neg_ℤ z) ≡ neg_ℤ (((a.x *ℤ x) +ℤ (a.y *ℤ y)) +ℤ (a.z *ℤ z))
minors_negated a x y z = rw (mul_neg a.x x, mul_neg a.y y, mul_neg a.z z) (three_negs (a.x *ℤ x) (a.y *ℤ y) (a.z *ℤ z))

pub determinant-negated_first : (a b c : Vec3) → determinant (negated a) b c ≡ neg_ℤ (determinant a b c)
determinant-negated_first a b c =
    rw (neg_mul a.x (minor b.y b.z c.y c.z), neg_mul a.y (minor b.z b.x c.z c.x), neg_mul a.z (minor b.x b.y c.x c.y))
    (three_negs (a.x *ℤ minor b.y b.z c.y c.z) (a.y *ℤ minor b.z b.x c.z c.x) (a.z *ℤ minor b.x b.y c.x c.y))

pub determinant-negated_second : (a b c : Vec3) → determinant a (negated b) c ≡ neg_ℤ (determinant a b c)
determinant-negated_second a b c =
    rw (minor-neg_row b.y b.z c.y c.z, minor-neg_row b.z b.x c.z c.x, minor-neg_row b.x b.y c.x c.y)
    (minors_negated a (minor b.y b.z c.y c.z) (minor b.z b.x c.z c.x) (minor b.x b.y c.x c.y))

pub determinant-negated_third : (a b c : Vec3) → determinant a b (negated c) ≡ neg_ℤ (determinant a b c)
determinant-negated_third a b c =
    rw (minor-neg_last_row b.y b.z c.y c.z, minor-neg_last_row b.z b.x c.z c.x, minor-neg_last_row b.x b.y c.x c.y)
    (minors_negated a (minor b.y b.z c.y c.z) (minor b.z b.x c.z c.x) (minor b.x b.y c.x c.y))

pub determinant-mirrored : (a b c : Vec3) → determinant (mirrored a) (mirrored b) (mirrored c) ≡ neg_ℤ (determinant a b c)
determinant-mirrored a b c =
    rw (
      minor-neg_last_column b.y b.z c.y c.z,
      minor-neg_column b.z b.x c.z c.x,
      mul_neg a.x (minor b.y b.z c.y c.z),
      mul_neg a.y (minor b.z b.x c.z c.x),
      neg_mul a.z (minor b.x b.y c.x c.y),
    )
    (three_negs (a.x *ℤ minor b.y b.z c.y c.z) (a.y *ℤ minor b.z b.x c.z c.x) (a.z *ℤ minor b.x b.y c.x c.y))

pub facing-mirrored : (u a b : Vec3) → facing (mirrored u) (mirrored a) (mirrored b) ≡ facing u a b
facing-mirrored u a b =
    rw (
      minor-neg_last_column u.y u.z a.y a.z,
      minor-neg_last_column u.y u.z b.y b.z,
      minor-neg_column u.z u.x a.z a.x,
      minor-neg_column u.z u.x b.z b.x,
      neg_by_neg (minor u.y u.z a.y a.z) (minor u.y u.z b.y b.z),
      neg_by_neg (minor u.z u.x a.z a.x) (minor u.z u.x b.z b.x),
    )

pub facing-negated : (u a b : Vec3) → facing (negated u) a b ≡ facing u a b
facing-negated u a b =
    rw (
      minor-neg_row u.y u.z a.y a.z,
      minor-neg_row u.y u.z b.y b.z,
      minor-neg_row u.z u.x a.z a.x,
      minor-neg_row u.z u.x b.z b.x,
      minor-neg_row u.x u.y a.x a.y,
      minor-neg_row u.x u.y b.x b.y,
      neg_by_neg (minor u.y u.z a.y a.z) (minor u.y u.z b.y b.z),
      neg_by_neg (minor u.z u.x a.z a.x) (minor u.z u.x b.z b.x),
      neg_by_neg (minor u.x u.y a.x a.y) (minor u.x u.y b.x b.y),
    )

pub facing-exchanged : (u a b : Vec3) → facing u b a ≡ facing u a b
facing-exchanged u a b =
    rw (
      mul_comm (minor u.y u.z b.y b.z) (minor u.y u.z a.y a.z),
      mul_comm (minor u.z u.x b.z b.x) (minor u.z u.x a.z a.x),
      mul_comm (minor u.x u.y b.x b.y) (minor u.x u.y a.x a.y),
    )

minor-exchanged : (p q r s : ℤ) → minor r s p q ≡ neg_ℤ (minor p q r s)
minor-exchanged p q r s = omega (arith, ints)

pub determinant-exchanged_last : (a b c : Vec3) → determinant a c b ≡ neg_ℤ (determinant a b c)
determinant-exchanged_last a b c =
    rw (minor-exchanged b.y b.z c.y c.z, minor-exchanged b.z b.x c.z c.x, minor-exchanged b.x b.y c.x c.y)
    (minors_negated a (minor b.y b.z c.y c.z) (minor b.z b.x c.z c.x) (minor b.x b.y c.x c.y))

spread : (a b c : Vec3) → determinant a b c
    ≡ (((a.x *ℤ (b.y *ℤ c.z)) -ℤ (a.x *ℤ (b.z *ℤ c.y))) +ℤ ((a.y *ℤ (b.z *ℤ c.x)) -ℤ (a.y *ℤ (b.x *ℤ c.z)))) +ℤ ((a.z *ℤ (b.x *ℤ c.y)) -ℤ (a.z *ℤ (b.y *ℤ c.x)))
spread a b c = rw (mul_sub a.x (b.y *ℤ c.z) (b.z *ℤ c.y), mul_sub a.y (b.z *ℤ c.x) (b.x *ℤ c.z), mul_sub a.z (b.x *ℤ c.y) (b.y *ℤ c.x))

six_turned : (k l m n o p : ℤ) → ((k -ℤ l) +ℤ (m -ℤ n)) +ℤ (o -ℤ p) ≡ neg_ℤ (((n -ℤ o) +ℤ (p -ℤ k)) +ℤ (l -ℤ m))
six_turned k l m n o p = omega (arith, ints)

pub determinant-exchanged_first : (a b c : Vec3) → determinant b a c ≡ neg_ℤ (determinant a b c)
determinant-exchanged_first a b c =
    rw (
      spread b a c,
      spread a b c,
      to_front b.x a.y c.z,
      to_front b.x a.z c.y,
      to_front b.y a.z c.x,
      to_front b.y a.x c.z,
      to_front b.z a.x c.y,
      to_front b.z a.y c.x,
    )
    (six_turned (a.y *ℤ (b.x *ℤ c.z)) (a.z *ℤ (b.x *ℤ c.y)) (a.z *ℤ (b.y *ℤ c.x)) (a.x *ℤ (b.y *ℤ c.z)) (a.x *ℤ (b.z *ℤ c.y)) (a.y *ℤ (b.z *ℤ c.x)))

determinant-repeated : (b c : Vec3) → determinant c b c ≡ pos 0
determinant-repeated b c =
    rw (spread c b c, turned_round c.z b.y c.x, turned_round c.y b.x c.z, turned_round c.x b.z c.y)
    (three_pairs (c.x *ℤ (b.y *ℤ c.z)) (c.y *ℤ (b.z *ℤ c.x)) (c.z *ℤ (b.x *ℤ c.y)))
  where
    three_pairs : (k l m : ℤ) → ((k -ℤ l) +ℤ (l -ℤ m)) +ℤ (m -ℤ k) ≡ pos 0
    three_pairs k l m = omega (arith, ints)

minor-apart : (p q r s : ℤ) → minor (p -ℤ r) (q -ℤ s) r s ≡ minor p q r s
minor-apart p q r s = rw (sub_mul p r s, sub_mul q s r) (omega (arith, ints))

-- rows that are seen from the last one
pub determinant-apart : (a b c : Vec3) → determinant (apart a c) (apart b c) c ≡ determinant a b c
determinant-apart a b c =
    let none : determinant c b c ≡ pos 0 = determinant-repeated b c in
    rw (minor-apart b.y b.z c.y c.z, minor-apart b.z b.x c.z c.x, minor-apart b.x b.y c.x c.y, sub_mul a.x c.x (minor b.y b.z c.y c.z), sub_mul a.y c.y (minor b.z b.x c.z c.x), sub_mul a.z c.z (minor b.x b.y c.x c.y))
    (without (a.x *ℤ minor b.y b.z c.y c.z) (a.y *ℤ minor b.z b.x c.z c.x) (a.z *ℤ minor b.x b.y c.x c.y) (c.x *ℤ minor b.y b.z c.y c.z) (c.y *ℤ minor b.z b.x c.z c.x) (c.z *ℤ minor b.x b.y c.x c.y) none)
  where
    without : (k l m n o p : ℤ) → (n +ℤ o) +ℤ p ≡ pos 0 → ((k -ℤ n) +ℤ (l -ℤ o)) +ℤ (m -ℤ p) ≡ (k +ℤ l) +ℤ m
    without k l m n o p e = omega (arith, ints)
