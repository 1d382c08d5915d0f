use Rattle.std.proofs.Common.{length, ◌≡◌, arith, ◌∙◌, subst}
use Rattle.cip_branches.specs.Closing.{FlagOpen}
use Rattle.cip_branches.proofs.lemmas.ruled.Open.{open_fewer, flag_next}
use Rattle.cip_branches.proofs.growth.spheres.Spheres.flag_unresolved.Goals as goal

pub loop-branch-preserved : goal.loop-branch-preserved
loop-branch-preserved c =
    let next = c.loop-branch-test.true in
    let high = c.loop-branch.auto.branch-end in
    let count = c.branch_count-branch-end.ensures in
    let long = c.loop-branch.auto.flags ∙ c.requires.len in
    flag_next c.args.self.now.ranked.numbers c.args.unresolved.now c.loop-branch.flags c.loop-branch.branch
    c.is_open.result (omega (arith, next, high, count, long)) c.is_open.ensures.node_data c.is_open.ensures.none
    c.loop-branch.invariant

pub returns-clause-fewer : goal.returns-clause-fewer
returns-clause-fewer c =
    let high = c.loop-branch.auto.branch-end in
    let count = c.branch_count-branch-end.ensures in
    let at : c.loop-branch.branch ≡ length c.args.unresolved.now = omega (arith, c.loop-branch-test.false, high, count) in
    open_fewer c.args.self.now.ranked.numbers c.args.unresolved.now c.loop-branch.flags
    (c.loop-branch.auto.flags ∙ c.requires.len)
    (subst (λ n. FlagOpen c.args.self.now.ranked.numbers c.args.unresolved.now n c.loop-branch.flags) at
    c.loop-branch.invariant)
