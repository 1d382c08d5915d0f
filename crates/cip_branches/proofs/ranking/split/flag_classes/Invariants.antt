use Rattle.cip_partition.specs.Parting.{FlagClasses}
use Rattle.cip_branches.proofs.ranking.split.flag_classes.Given as goal

abbrev pub invariant-loop-row : goal.invariant-loop-row
invariant-loop-row l = FlagClasses l.order.rows l.order.numbers l.from l.row l.to l.flags
