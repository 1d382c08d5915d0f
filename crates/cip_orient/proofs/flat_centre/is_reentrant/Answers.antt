use Rattle.std.proofs.Common.{arith}
use Rattle.std.proofs.lemmas.Grind.{common_steps}
use Rattle.cip_orient.proofs.flat_centre.is_reentrant.Goals as goal

pub returns-else-is_marked_inside-2 : goal.returns-else-is_marked_inside-2
returns-else-is_marked_inside-2 c = grind (arith, common_steps)

pub returns-then-is_marked_inside-2 : goal.returns-then-is_marked_inside-2
returns-then-is_marked_inside-2 c = grind (arith, common_steps)

pub bounds-directions-2-else-is_marked_inside : goal.bounds-directions-2-else-is_marked_inside
bounds-directions-2-else-is_marked_inside c = grind (arith, common_steps)

pub bounds-directions-0-else-is_marked_inside : goal.bounds-directions-0-else-is_marked_inside
bounds-directions-0-else-is_marked_inside c = grind (arith, common_steps)

pub bounds-directions-1-else-is_marked_inside : goal.bounds-directions-1-else-is_marked_inside
bounds-directions-1-else-is_marked_inside c = grind (arith, common_steps)
