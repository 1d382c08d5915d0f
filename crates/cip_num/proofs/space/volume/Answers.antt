use Rattle.cip_num.proofs.lemmas.Sizes.{flat_kept, minor_kept, product_kept}
use Rattle.cip_num.proofs.space.volume.Goals as goal

pub minor-requires-clause-p : goal.minor-requires-clause-p
minor-requires-clause-p c = flat_kept c.args.b.y c.requires.b.y

pub minor-requires-clause-q : goal.minor-requires-clause-q
minor-requires-clause-q c = flat_kept c.args.b.z c.requires.b.z

pub minor-requires-clause-r : goal.minor-requires-clause-r
minor-requires-clause-r c = flat_kept c.args.c.y c.requires.c.y

pub minor-requires-clause-s : goal.minor-requires-clause-s
minor-requires-clause-s c = flat_kept c.args.c.z c.requires.c.z

pub scaled-x-requires-clause-a : goal.scaled-x-requires-clause-a
scaled-x-requires-clause-a c = flat_kept c.args.a.x c.requires.a.x

pub scaled-x-requires-clause-minor : goal.scaled-x-requires-clause-minor
scaled-x-requires-clause-minor c = minor_kept c.minor.result c.minor.ensures.small

pub minor-requires-2-clause-p : goal.minor-requires-2-clause-p
minor-requires-2-clause-p c = flat_kept c.args.b.z c.requires.b.z

pub minor-requires-2-clause-q : goal.minor-requires-2-clause-q
minor-requires-2-clause-q c = flat_kept c.args.b.x c.requires.b.x

pub minor-requires-2-clause-r : goal.minor-requires-2-clause-r
minor-requires-2-clause-r c = flat_kept c.args.c.z c.requires.c.z

pub minor-requires-2-clause-s : goal.minor-requires-2-clause-s
minor-requires-2-clause-s c = flat_kept c.args.c.x c.requires.c.x

pub scaled-y-requires-clause-a : goal.scaled-y-requires-clause-a
scaled-y-requires-clause-a c = flat_kept c.args.a.y c.requires.a.y

pub scaled-y-requires-clause-minor : goal.scaled-y-requires-clause-minor
scaled-y-requires-clause-minor c = minor_kept c.minor-2.result c.minor-2.ensures.small

pub minor-requires-3-clause-p : goal.minor-requires-3-clause-p
minor-requires-3-clause-p c = flat_kept c.args.b.x c.requires.b.x

pub minor-requires-3-clause-q : goal.minor-requires-3-clause-q
minor-requires-3-clause-q c = flat_kept c.args.b.y c.requires.b.y

pub minor-requires-3-clause-r : goal.minor-requires-3-clause-r
minor-requires-3-clause-r c = flat_kept c.args.c.x c.requires.c.x

pub minor-requires-3-clause-s : goal.minor-requires-3-clause-s
minor-requires-3-clause-s c = flat_kept c.args.c.y c.requires.c.y

pub scaled-z-requires-clause-a : goal.scaled-z-requires-clause-a
scaled-z-requires-clause-a c = flat_kept c.args.a.z c.requires.a.z

pub scaled-z-requires-clause-minor : goal.scaled-z-requires-clause-minor
scaled-z-requires-clause-minor c = minor_kept c.minor-3.result c.minor-3.ensures.small

pub total_of_three-requires-clause-a : goal.total_of_three-requires-clause-a
total_of_three-requires-clause-a c = product_kept c.scaled-x.result c.scaled-x.ensures.small

pub total_of_three-requires-clause-b : goal.total_of_three-requires-clause-b
total_of_three-requires-clause-b c = product_kept c.scaled-y.result c.scaled-y.ensures.small

pub total_of_three-requires-clause-c : goal.total_of_three-requires-clause-c
total_of_three-requires-clause-c c = product_kept c.scaled-z.result c.scaled-z.ensures.small
