use Rattle.std.proofs.Common.{◌≡◌, map, take}
use Rattle.cip_tree.specs.FlatTree.{told_in}
use Rattle.cip_tree.proofs.flat.node_data.Given as goal

abbrev pub invariant-loop-node : goal.invariant-loop-node
invariant-loop-node l = l.nodes.items ≡ map (told_in l.placed) (take l.node-index l.placed)
