use Rattle.std.proofs.Common.{◌+◌, ◌*◌}
use Rattle.cip_tree.specs.Branches.{gathered, count}
use Rattle.cip_tree.proofs.+counted.Given as goal

abbrev pub decreases-reading::counted : goal.decreases-reading::counted
decreases-reading::counted l = 2 * count (gathered l.branches.now)

abbrev pub decreases-tree::PlainTree::node_count : goal.decreases-tree::PlainTree::node_count
decreases-tree::PlainTree::node_count l = 2 * count l.self.now.below + 1
