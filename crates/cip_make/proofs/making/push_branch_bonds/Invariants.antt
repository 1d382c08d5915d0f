use Rattle.std.proofs.Common.{◌≡◌, ◌++◌, ◌+◌, drop}
use Rattle.cip_make.specs.Made.{branch_bonds}
use Rattle.cip_make.proofs.making.push_branch_bonds.Given as goal

abbrev pub invariant-loop-branch : goal.invariant-loop-branch
invariant-loop-branch l = record {
  so_far : l.text.items ++ branch_bonds (l.number + 1) (drop l.branch-index l.branches)
      ≡ l.fn.text.items ++ branch_bonds (l.chain + 1) l.branches;
  number : l.number ≡ l.chain + l.branch-index;
}
