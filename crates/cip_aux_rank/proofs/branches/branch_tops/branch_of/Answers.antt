use Rattle.std.proofs.Common.{◌∙◌, ◌==◌, length, slice_index, ne_eqb}
use Rattle.cip_aux.proofs.lemmas.FoundFirst.{first_passed}
use Rattle.cip_aux_rank.proofs.branches.branch_tops.branch_of.Goals as goal

pub loop-branch-preserved : goal.loop-branch-preserved
loop-branch-preserved c =
    first_passed (λ branch. slice_index c.args.tops.now branch == c.args.ligand) c.loop-branch.branch
    (length c.args.tops.now) c.loop-branch-test.true
    (ne_eqb (slice_index c.args.tops.now c.loop-branch.branch) c.args.ligand c.if-tops-branch.false)
    ∙ c.loop-branch.invariant
