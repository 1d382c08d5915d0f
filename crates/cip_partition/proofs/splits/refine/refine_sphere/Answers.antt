use Rattle.cip_partition.specs.Kids.{kids_of}
use Rattle.cip_partition.proofs.lemmas.RefinedSphere.{flags_within, kids_parted}
use Rattle.cip_partition.proofs.splits.refine.refine_sphere.Goals as goal

pub write_child_sets-requires-clause-flags : goal.write_child_sets-requires-clause-flags
write_child_sets-requires-clause-flags c = flags_within (kids_of c.args.family.now) c.args.order.now.rows
    c.args.order.now.numbers c.args.from c.args.to c.args.flags.now c.requires.classed c.requires.flags

pub returns-clause-ordered : goal.returns-clause-ordered
returns-clause-ordered c = kids_parted (kids_of c.args.family.now) c.args.order.now.rows c.args.order.now.numbers
    c.args.from c.args.to c.args.flags.now c.requires.classed c.write_child_sets.new.sets c.split_classes.new.order.rows
    c.split_classes.new.order.numbers c.split_classes.ensures.parted c.write_child_sets.ensures c.requires.calm

pub split_classes-requires-clause-classed : goal.split_classes-requires-clause-classed
split_classes-requires-clause-classed c = c.requires.classed

pub split_classes-requires-clause-flags : goal.split_classes-requires-clause-flags
split_classes-requires-clause-flags c = c.requires.flags

pub write_child_sets-requires-clause-sets : goal.write_child_sets-requires-clause-sets
write_child_sets-requires-clause-sets c = c.requires.sets

pub split_classes-requires-clause-heads : goal.split_classes-requires-clause-heads
split_classes-requires-clause-heads c = c.requires.heads

pub split_classes-requires-clause-within : goal.split_classes-requires-clause-within
split_classes-requires-clause-within c = c.requires.within

pub split_classes-requires-clause-ordered : goal.split_classes-requires-clause-ordered
split_classes-requires-clause-ordered c = c.requires.ordered

pub returns-clause-room : goal.returns-clause-room
returns-clause-room c = c.split_classes.ensures.room
