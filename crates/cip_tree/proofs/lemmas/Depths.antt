-- How many nodes and spheres there are, by the first branch and the others.
use Rattle.std.proofs.Common.{◌≡◌, ◌≤◌, ◌+◌, ◌-◌, suc, List, [], ◌∷◌, max, drop, take, get_or, length, ap, arith}
use Rattle.std.proofs.lemmas.List.{take_all}
use Rattle.cip_tree.specs.Branches.{Branches, Branch, none, more, gathered, count, depth, height, node_count}

-- no more spheres than nodes
pub shallow : (branches : Branches) → depth branches ≤ count branches
shallow none = omega arith
shallow (more label below others) = omega (arith, shallow below, shallow others)

-- a sphere each, and the root's own
pub lower : (tree : Branch) → height tree + 1 ≤ node_count tree
lower tree = omega (arith, shallow tree.below)

others_are : (branch : Branch) (branches : List Branch)
    → take (length (branch ∷ branches) - 1) (drop 1 (branch ∷ branches)) ≡ branches
others_are branch branches = take_all (length (branch ∷ branches) - 1) branches (omega arith)

pub count_parts : (branches : List Branch) (d : Branch) → 1 ≤ length branches
    → suc (count (get_or branches 0 d).below + count (gathered (take (length branches - 1) (drop 1 branches))))
    ≡ count (gathered branches)
count_parts [] d some = absurd (omega (arith, some))
count_parts (branch ∷ branches) d some =
    ap (λ bs. suc (count branch.below + count (gathered bs))) (others_are branch branches)

pub depth_parts : (branches : List Branch) (d : Branch) → 1 ≤ length branches
    → max (depth (get_or branches 0 d).below + 1) (depth (gathered (take (length branches - 1) (drop 1 branches))))
    ≡ depth (gathered branches)
depth_parts [] d some = absurd (omega (arith, some))
depth_parts (branch ∷ branches) d some =
    ap (λ bs. max (depth branch.below + 1) (depth (gathered bs))) (others_are branch branches)
