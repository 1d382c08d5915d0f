use Rattle.std.proofs.Common.{◌≡◌, take}
use Rattle.cip_branches.specs.SphereColumns.{cleared, with_sphere, with_tops}
use Rattle.cip_branches.proofs.growth.spheres.Spheres.start.Given as goal

abbrev pub invariant-loop-branch : goal.invariant-loop-branch
invariant-loop-branch l = record {
  begun : l.self ≡ with_tops (take l.branch l.tops) 0 (with_sphere (cleared l.fn.self));
}
