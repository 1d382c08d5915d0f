use Rattle.std.proofs.Common.{◌≡◌, ◌++◌, drop}
use Rattle.cip_make.specs.Made.{branch_atoms}
use Rattle.cip_make.proofs.making.push_branch_atoms.Given as goal

abbrev pub invariant-loop-branch : goal.invariant-loop-branch
invariant-loop-branch l =
    l.text.items ++ branch_atoms (drop l.branch-index l.branches) ≡ l.fn.text.items ++ branch_atoms l.branches
