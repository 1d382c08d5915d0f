use Rattle.std.proofs.Common.{◌≡◌, w64, arith}
use Rattle.std.proofs.lemmas.Int.{ints, to_z-of_z}
use mir.Val.{to_z, of_z}
use Rattle.cip_ctfile.proofs.lemmas.UsualDecimals.{decimal_front}
use Rattle.cip_ctfile.proofs.fast_path.parse_decimal_prefix.Goals as goal

pub returns-in-Some-with_sign-clause-value : goal.returns-in-Some-with_sign-clause-value
returns-in-Some-with_sign-clause-value c =
    let number = c.in-Some-with_sign.number in
    let small = c.in-Some-with_sign.ensures.small in
    let back : to_z w64 (of_z w64 number) ≡ number = to_z-of_z w64 number (omega (arith, ints, small)) in
    rw (back, c.without_minus-bare.ensures) (decimal_front c.args.text.now c.in-Some.size c.in-Some.end number
    (rw c.without_minus-bare.ensures at c.in-Some.ensures)
    (rw c.starts_with_byte.ensures at c.in-Some-with_sign.ensures.value))
