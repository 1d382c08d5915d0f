use Rattle.std.proofs.Common.{arith}
use Rattle.std.proofs.lemmas.Grind.{common_steps}
use Rattle.cip_text.proofs.lemmas.Positions.{first_position}
use Rattle.cip_item.proofs.line_kinds.is_heading.Goals as goal

pub returns-in-Some : goal.returns-in-Some
returns-in-Some c = grind (arith, common_steps, first_position)
