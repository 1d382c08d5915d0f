use Rattle.std.proofs.Common.{arith, ◌+◌, ap}
use Rattle.std.proofs.lemmas.Grind.{common_steps}
use Rattle.std.proofs.lemmas.List.{drop_all}
use Rattle.cip_make.specs.Made.{branch_bonds}
use Rattle.cip_make.proofs.lemmas.Texts.{none_left}
use Rattle.cip_make.proofs.making.push_branch_bonds.Goals as goal

pub loop-branch-preserved : goal.loop-branch-preserved
loop-branch-preserved c = grind (arith, common_steps)

pub returns : goal.returns
returns c =
    none_left _ _ _
    (ap (branch_bonds (c.loop-branch.number + 1))
    (drop_all c.loop-branch.branch-index c.args.branches.now c.loop-branch-test.false))
    c.loop-branch.invariant.so_far
