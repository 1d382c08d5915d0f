use Rattle.std.proofs.Common.{arith}
use Rattle.std.proofs.lemmas.Grind.{common_steps}
use Rattle.cip_orient.proofs.flat_axis.show_by_marks.Goals as goal

pub lead-requires : goal.lead-requires
lead-requires c = grind (arith, common_steps)

pub lead-requires-then-has_mark-2 : goal.lead-requires-then-has_mark-2
lead-requires-then-has_mark-2 c = grind (arith, common_steps)

pub bounds-seconds-0 : goal.bounds-seconds-0
bounds-seconds-0 c = grind (arith, common_steps)
