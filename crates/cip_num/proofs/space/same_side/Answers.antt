use Rattle.cip_num.proofs.lemmas.Sizes.{minor_kept, product_kept}
use Rattle.cip_num.proofs.space.same_side.Goals as goal

pub square-requires-clause-m : goal.square-requires-clause-m
square-requires-clause-m c = minor_kept c.cross_of-m.result.x c.cross_of-m.ensures.small.x

pub square-requires-clause-n : goal.square-requires-clause-n
square-requires-clause-n c = minor_kept c.cross_of-n.result.x c.cross_of-n.ensures.small.x

pub square-requires-2-clause-m : goal.square-requires-2-clause-m
square-requires-2-clause-m c = minor_kept c.cross_of-m.result.y c.cross_of-m.ensures.small.y

pub square-requires-2-clause-n : goal.square-requires-2-clause-n
square-requires-2-clause-n c = minor_kept c.cross_of-n.result.y c.cross_of-n.ensures.small.y

pub square-requires-3-clause-m : goal.square-requires-3-clause-m
square-requires-3-clause-m c = minor_kept c.cross_of-m.result.z c.cross_of-m.ensures.small.z

pub square-requires-3-clause-n : goal.square-requires-3-clause-n
square-requires-3-clause-n c = minor_kept c.cross_of-n.result.z c.cross_of-n.ensures.small.z

pub total_of_three-requires-clause-a : goal.total_of_three-requires-clause-a
total_of_three-requires-clause-a c = product_kept c.square.result c.square.ensures.small

pub total_of_three-requires-clause-b : goal.total_of_three-requires-clause-b
total_of_three-requires-clause-b c = product_kept c.square-2.result c.square-2.ensures.small

pub total_of_three-requires-clause-c : goal.total_of_three-requires-clause-c
total_of_three-requires-clause-c c = product_kept c.square-3.result c.square-3.ensures.small
