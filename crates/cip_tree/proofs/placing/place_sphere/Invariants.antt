use Rattle.std.proofs.Common.{◌≡◌, ◌++◌, drop, length, take}
use Rattle.cip_tree.specs.FlatTree.{next_sphere}
use Rattle.cip_tree.proofs.placing.place_sphere.Given as goal

abbrev pub invariant-loop-number : goal.invariant-loop-number
invariant-loop-number l = record {
  kept : take (length l.fn.nodes.items) l.nodes.items ≡ l.fn.nodes.items;
  added : l.nodes.items ++ next_sphere l.number (drop l.number l.fn.nodes.items)
      ≡ l.fn.nodes.items ++ next_sphere l.fn.first (drop l.fn.first l.fn.nodes.items);
}
