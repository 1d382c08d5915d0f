-- Identities of cross and scalar products in the plane. Plane geometry.
use Rattle.std.proofs.Common.{◌≡◌, arith}
use Rattle.std.specs.Prelude.{ℤ, pos, ◌*ℤ◌, ◌+ℤ◌, ◌-ℤ◌, neg_ℤ}
use Rattle.std.proofs.lemmas.Int.{ints}
use Rattle.cip_num.specs.declared.plane.Vec2.{Vec2}
use Rattle.cip_num.specs.Plane.{cross, dot}
use Rattle.cip_num.proofs.lemmas.Ring.{sum_by_sum, sum_by_difference, difference_by_sum, difference_by_difference, exchange_inner, exchange_last, last_to_second, square_apart}

pub cross_back : (u v : Vec2) → cross v u ≡ neg_ℤ (cross u v)
cross_back u v = omega (arith, ints)

pub cross_itself : (v : Vec2) → cross v v ≡ pos 0
cross_itself v = omega (arith, ints)

pub dot_back : (u v : Vec2) → dot v u ≡ dot u v
dot_back u v = omega (arith, ints)

six_terms : (k l m n o p : ℤ) → (k -ℤ m) -ℤ (n -ℤ l) ≡ ((o -ℤ m) -ℤ (n -ℤ p)) +ℤ ((k -ℤ o) -ℤ (p -ℤ l))
six_terms k l m n o p = omega (arith, ints)

-- the relation of the six cross products of four vectors: Grassmann and Pluecker
pub cross_of_four : (r a b c : Vec2) → cross r b *ℤ cross a c ≡ (cross r a *ℤ cross b c) +ℤ (cross r c *ℤ cross a b)
cross_of_four r a b c =
    rw (
      difference_by_difference (r.x *ℤ b.y) (r.y *ℤ b.x) (a.x *ℤ c.y) (a.y *ℤ c.x),
      difference_by_difference (r.x *ℤ a.y) (r.y *ℤ a.x) (b.x *ℤ c.y) (b.y *ℤ c.x),
      difference_by_difference (r.x *ℤ c.y) (r.y *ℤ c.x) (a.x *ℤ b.y) (a.y *ℤ b.x),
      exchange_last r.x b.y a.x c.y,
      exchange_last r.y b.x a.y c.x,
      exchange_inner r.x b.y a.y c.x,
      exchange_inner r.y b.x a.x c.y,
      last_to_second r.x a.y b.x c.y,
      last_to_second r.y a.x b.y c.x,
    )
    (six_terms
    ((r.x *ℤ c.y) *ℤ (a.x *ℤ b.y)) ((r.y *ℤ c.x) *ℤ (a.y *ℤ b.x)) ((r.x *ℤ a.y) *ℤ (b.y *ℤ c.x))
    ((r.y *ℤ a.x) *ℤ (b.x *ℤ c.y)) ((r.x *ℤ c.y) *ℤ (a.y *ℤ b.x)) ((r.y *ℤ c.x) *ℤ (a.x *ℤ b.y)))

cross_terms : (a b c d e f : ℤ) → ((a -ℤ b) +ℤ (c -ℤ d)) +ℤ ((b +ℤ e) -ℤ (f +ℤ c)) ≡ (a -ℤ f) +ℤ (e -ℤ d)
cross_terms a b c d e f = omega (arith, ints)

-- the imaginary part of a product of complex numbers: turning from r to v and on to w
pub cross_through : (r v w : Vec2) → (dot r v *ℤ cross v w) +ℤ (cross r v *ℤ dot v w) ≡ dot v v *ℤ cross r w
cross_through r v w =
    rw (
      sum_by_difference (r.x *ℤ v.x) (r.y *ℤ v.y) (v.x *ℤ w.y) (v.y *ℤ w.x),
      difference_by_sum (r.x *ℤ v.y) (r.y *ℤ v.x) (v.x *ℤ w.x) (v.y *ℤ w.y),
      sum_by_difference (v.x *ℤ v.x) (v.y *ℤ v.y) (r.x *ℤ w.y) (r.y *ℤ w.x),
      square_apart r.x v.x w.y,
      exchange_inner r.x v.x v.y w.x,
      exchange_inner r.y v.y v.x w.y,
      square_apart r.y v.y w.x,
      square_apart r.x v.y w.y,
      square_apart r.y v.x w.x,
    )
    (cross_terms
    ((v.x *ℤ v.x) *ℤ (r.x *ℤ w.y)) ((r.x *ℤ v.y) *ℤ (v.x *ℤ w.x)) ((r.y *ℤ v.x) *ℤ (v.y *ℤ w.y))
    ((v.y *ℤ v.y) *ℤ (r.y *ℤ w.x)) ((v.y *ℤ v.y) *ℤ (r.x *ℤ w.y)) ((v.x *ℤ v.x) *ℤ (r.y *ℤ w.x)))

dot_terms : (a b c d e f : ℤ) → ((a +ℤ b) +ℤ (c +ℤ d)) -ℤ ((b -ℤ e) -ℤ (f -ℤ c)) ≡ (a +ℤ f) +ℤ (e +ℤ d)
dot_terms a b c d e f = omega (arith, ints)

-- the real part of that product
pub dot_through : (r v w : Vec2) → (dot r v *ℤ dot v w) -ℤ (cross r v *ℤ cross v w) ≡ dot v v *ℤ dot r w
dot_through r v w =
    rw (
      sum_by_sum (r.x *ℤ v.x) (r.y *ℤ v.y) (v.x *ℤ w.x) (v.y *ℤ w.y),
      difference_by_difference (r.x *ℤ v.y) (r.y *ℤ v.x) (v.x *ℤ w.y) (v.y *ℤ w.x),
      sum_by_sum (v.x *ℤ v.x) (v.y *ℤ v.y) (r.x *ℤ w.x) (r.y *ℤ w.y),
      square_apart r.x v.x w.x,
      exchange_inner r.x v.x v.y w.y,
      exchange_inner r.y v.y v.x w.x,
      square_apart r.y v.y w.y,
      square_apart r.x v.y w.x,
      square_apart r.y v.x w.y,
    )
    (dot_terms
    ((v.x *ℤ v.x) *ℤ (r.x *ℤ w.x)) ((r.x *ℤ v.y) *ℤ (v.x *ℤ w.y)) ((r.y *ℤ v.x) *ℤ (v.y *ℤ w.x))
    ((v.y *ℤ v.y) *ℤ (r.y *ℤ w.y)) ((v.y *ℤ v.y) *ℤ (r.x *ℤ w.x)) ((v.x *ℤ v.x) *ℤ (r.y *ℤ w.y)))
