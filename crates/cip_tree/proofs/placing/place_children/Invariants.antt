use Rattle.std.proofs.Common.{◌≡◌, ◌++◌, take}
use Rattle.cip_tree.specs.FlatTree.{hung}
use Rattle.cip_tree.specs.Branches.{children as branches_below}
use Rattle.cip_tree.proofs.placing.place_children.Given as goal

abbrev pub invariant-loop-child : goal.invariant-loop-child
invariant-loop-child l =
    l.nodes.items ≡ l.fn.nodes.items ++ hung l.number (take l.child-index (branches_below l.branch))
