use Rattle.std.proofs.Common.{◌≡◌, length}
use Rattle.cip_tree.specs.FlatTree.{spheres, placed_to}
use Rattle.cip_tree.proofs.placing.place_all.Given as goal

abbrev pub invariant-loop : goal.invariant-loop
invariant-loop l = record {
  nodes : l.nodes.items ≡ placed_to l.tree l.counter;
  first : l.first ≡ length (spheres l.tree l.counter).before;
}
