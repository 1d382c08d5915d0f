use Rattle.std.proofs.Common.{◌≡◌, ◌==◌, ◌<◌, ◌∙◌, length, false, sym, arith}
use Rattle.std.proofs.lemmas.Grind.{common_steps}
use Rattle.std.proofs.lemmas.Bool.Decides.{nat_tests}
use Rattle.cip_v3000.proofs.lemmas.Continued.{other_end}
use Rattle.cip_v3000.proofs.lines.continuation.is_continued.Goals as goal

pub returns-then-line-gt45 : goal.returns-then-line-gt45
returns-then-line-gt45 c =
    let none : (length c.args.line.now == 0) ≡ false = sym c.is_empty.ensures ∙ c.if-not-is_empty.true in
    let some : 0 < length c.args.line.now = grind (arith, nat_tests, none) in
    sym (other_end c.args.line.now some c.if-line-gt45.true)

pub returns-in_default-2 : goal.returns-in_default-2
returns-in_default-2 c = grind (arith, common_steps)

pub returns-in-45 : goal.returns-in-45
returns-in-45 c = grind (arith, common_steps)
