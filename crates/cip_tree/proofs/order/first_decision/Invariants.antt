use Rattle.std.proofs.Common.{◌≡◌, ◌+◌, ◌-◌, ℕ, Ordering}
use Rattle.cip_rank.specs.Comparison.{comparison}
use Rattle.cip_digraph.specs.rules.Decisions.{first_difference}
use Rattle.cip_tree.specs.Branches.{children as branches_below}
use Rattle.cip_tree.specs.BranchKeys.{key_of}
use Rattle.cip_tree.proofs.order.first_decision.Given as goal

abbrev pub invariant-loop-depth : goal.invariant-loop-depth
invariant-loop-depth g l =
    let at : ℕ → Ordering = λ depth. comparison branches_below (g.E.BranchOrder.order l.order.earlier) (key_of l.order.key) depth l.one l.other in
    first_difference at l.depth (l.order.height + 1 - l.depth) ≡ first_difference at 0 (l.order.height + 1)
