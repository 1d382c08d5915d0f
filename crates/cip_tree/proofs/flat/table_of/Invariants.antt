use Rattle.std.proofs.Common.{◌≡◌, ◌<◌, ◌++◌, length, map}
use Rattle.cip_rank.specs.Tree.{last_parent}
use Rattle.cip_tree.specs.InOrder.{AreBehind}
use Rattle.cip_tree.proofs.flat.table_of.Given as goal

abbrev pub invariant-loop-rest : goal.invariant-loop-rest
invariant-loop-rest l = record {
  parents : l.table.parents ++ map (λ node. node.parent) l.rest ≡ map (λ node. node.parent) l.placed;
  behind : AreBehind (length l.table.parents) (last_parent l.table.parents) l.rest;
  bound : l.table.bound ≡ length l.placed;
  some : 0 < length l.table.parents;
}

abbrev pub decreases-loop-rest : goal.decreases-loop-rest
decreases-loop-rest l = length l.rest
