use Rattle.std.proofs.Common.{◌≡◌, ◌≤◌, ℕ, Fits, w8, w16, arith, subst, sym}
use Rattle.std.specs.Prelude.{ℤ, unsigned_abs}
use Rattle.std.proofs.lemmas.Int.{ints, to_z-of_z}
use mir.Val.{of_z, to_z}
use Rattle.cip_v3000.proofs.values.keys.with_value.Goals as goal

byte_back : (m : ℤ) → unsigned_abs m ≤ 15 → to_z w8 (of_z w8 m) ≡ m
byte_back m small = to_z-of_z w8 m (omega (arith, ints))

small_back : (m : ℤ) → unsigned_abs m ≤ 14 → unsigned_abs (to_z w8 (of_z w8 m)) ≤ 14
small_back m small = subst (λ (n : ℤ). unsigned_abs n ≤ 14) (sym (byte_back m (omega (arith, small)))) small

fits_byte : (n : ℕ) → n ≤ 3 → Fits w8 n
fits_byte n few = omega (arith, few)

fits_mass : (n : ℕ) → n ≤ 400 → Fits w16 n
fits_mass n few = omega (arith, few)

pub valence-requires : goal.valence-requires
valence-requires c = small_back c.in-Some-parse_signed.stated c.in-Some-parse_signed.ensures.range

pub overflow_cast-keys : goal.overflow_cast-keys
overflow_cast-keys c = fits_byte c.in-Some-parse_number.radical c.in-Some-parse_number.ensures.range

pub overflow_cast-keys-then-eq-3 : goal.overflow_cast-keys-then-eq-3
overflow_cast-keys-then-eq-3 c = fits_mass c.in-Some-parse_number-2.mass c.in-Some-parse_number-2.ensures.range
