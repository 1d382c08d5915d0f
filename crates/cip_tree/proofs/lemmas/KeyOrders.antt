-- Keys compare as their numbers do.
use Rattle.std.proofs.Common.{◌≡◌, ℕ, zero, pos, refl, arith, int_cmp, nat_cmp}
use Rattle.std.proofs.lemmas.Bool.Decides.{nat_tests}
use Rattle.cip_digraph.specs.rules.Keys.{lower_precedes}

pub pos_cmp : (m n : ℕ) → int_cmp (pos m) (pos n) ≡ nat_cmp m n
pos_cmp m n = grind (arith, nat_tests)

pub lower_cmp : (m n : ℕ) → int_cmp (lower_precedes m) (lower_precedes n) ≡ nat_cmp n m
lower_cmp zero zero = refl
lower_cmp m n = grind (arith, nat_tests)
