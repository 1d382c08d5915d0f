-- Branches below a node are smaller than its own.
use Rattle.std.proofs.Common.{◌≤◌, ◌+◌, suc, List, [], ◌∷◌, arith}
use denote.Param.Weighed.{most}
use Rattle.cip_tree.specs.Branches.{Branch, gathered, count, node_count}

pub children_smaller : (branches : List Branch) → most (λ branch. node_count branch + 1) branches ≤ suc (count (gathered branches))
children_smaller [] = omega arith
children_smaller (branch ∷ branches) = omega (arith, children_smaller branches)
