-- Branches in a row: their nodes, and the keys below all of these in a row of their own. Own.
use Rattle.std.specs.Prelude.{ℕ, ◌+◌, List, [], ◌∷◌, drop, take}
use Rattle.cip_ranker.specs.RootDecisions.{Branch}
use Rattle.cip_ranker.specs.declared.two_sphere.two_sphere_branches.BranchTop.{BranchTop}

-- how many keys are below all of them
abbrev pub count_below : List BranchTop → ℕ
count_below [] = 0
count_below (top ∷ tops) = top.below + count_below tops

-- a branch takes as many keys as are below its node, and those after it the rest
abbrev pub shown_of : List BranchTop → List ℕ → List Branch
shown_of [] keys = []
shown_of (top ∷ tops) keys =
    record { vertex = top.vertex; key = top.key; below = take top.below keys } ∷ shown_of tops (drop top.below keys)
