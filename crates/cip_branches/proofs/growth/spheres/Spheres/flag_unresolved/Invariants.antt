use Rattle.cip_branches.specs.Closing.{FlagOpen}
use Rattle.cip_branches.proofs.growth.spheres.Spheres.flag_unresolved.Given as goal

abbrev pub invariant-loop-branch : goal.invariant-loop-branch
invariant-loop-branch l = FlagOpen l.self.ranked.numbers l.unresolved l.branch l.flags
