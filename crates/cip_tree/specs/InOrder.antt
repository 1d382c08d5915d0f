-- Nodes after the root in order of spheres: their parents ascend and are before them. Own.
use Rattle.std.specs.Prelude.{◌≡◌, ◌<◌, ◌≤◌, ◌+◌, ℕ, List, [], ◌∷◌}
use Rattle.cip_tree.specs.FlatTree.{Placed}

-- of nodes of which the first has this number, after one with this parent
abbrev pub AreBehind : ℕ → ℕ → List Placed → Type 0
AreBehind number parent [] = Unit {0}
AreBehind number parent (node ∷ nodes) =
    (parent ≤ node.parent) × ((node.parent < number) × AreBehind (number + 1) node.parent nodes)

abbrev pub AreInOrder : List Placed → Type 0
AreInOrder [] = ⊥
AreInOrder (root ∷ nodes) = (root.parent ≡ 0) × AreBehind 1 0 nodes
