use Rattle.std.proofs.Common.{◌+◌, ◌*◌}
use Rattle.cip_tree.specs.Branches.{gathered, count}
use Rattle.cip_tree.proofs.+height.Given as goal

abbrev pub decreases-reading::depth_of : goal.decreases-reading::depth_of
decreases-reading::depth_of l = 2 * count (gathered l.branches.now)

abbrev pub decreases-tree::PlainTree::height : goal.decreases-tree::PlainTree::height
decreases-tree::PlainTree::height l = 2 * count l.self.now.below + 1
