use Rattle.std.proofs.Common.{◌+◌, ℕ, sym, ◌∙◌, arith, Ordering}
use Rattle.cip_rank.specs.Comparison.{comparison}
use Rattle.cip_tree.specs.Branches.{children as branches_below}
use Rattle.cip_tree.specs.BranchKeys.{key_of}
use Rattle.cip_tree.proofs.lemmas.FirstDecisions.{tied_here}
use Rattle.cip_tree.proofs.order.first_decision.Goals as goal

pub loop-depth-preserved : goal.loop-depth-preserved
loop-depth-preserved g c =
    let at : ℕ → Ordering = λ depth. comparison branches_below (g.E.BranchOrder.order c.args.order.now.earlier)
    (key_of c.args.order.now.key) depth c.args.one.now c.args.other.now in
    tied_here at c.loop-depth.depth (c.args.order.now.height + 1) (omega (arith, c.loop-depth-test.true))
    (sym c.in_ok-side.ensures ∙ c.in-Equal.is)
    ∙ c.loop-depth.invariant
