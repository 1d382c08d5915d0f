use Rattle.std.proofs.Common.{◌<◌, ℕ}
use Rattle.cip_branches.specs.Closing.{TiesWith}
use Rattle.cip_branches.proofs.growth.spheres.Spheres.is_open.Given as goal

abbrev pub invariant-loop-other : goal.invariant-loop-other
invariant-loop-other l = record {
  none : (k : ℕ) → k < l.other → TiesWith l.self.ranked.numbers l.unresolved l.branch k → ⊥;
}
