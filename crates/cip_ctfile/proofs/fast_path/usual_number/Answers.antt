use Rattle.std.proofs.Common.{arith}
use Rattle.cip_ctfile.proofs.lemmas.UsualNumbers.{one_digit, two_digits, three_digits}
use Rattle.cip_ctfile.proofs.fast_path.usual_number.Goals as goal

pub returns-then-second-eq32 : goal.returns-then-second-eq32
returns-then-second-eq32 c = grind (arith, one_digit)

pub returns-then-first-eq32-2 : goal.returns-then-first-eq32-2
returns-then-first-eq32-2 c = grind (arith, two_digits)

pub returns-in-Some-digit_of-2 : goal.returns-in-Some-digit_of-2
returns-in-Some-digit_of-2 c = grind (arith, three_digits)
