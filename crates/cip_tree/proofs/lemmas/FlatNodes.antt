-- What is known of the nodes of a tree.
use Rattle.std.proofs.Common.{◌≡◌, ◌+◌, ℕ, suc, List, [], ◌∷◌, ◌++◌, drop, map, length, refl, ap, ◌∙◌, arith}
use Rattle.std.proofs.Math.Seq.{drop-append_seam}
use Rattle.cip_digraph.specs.digraph.NodeList.{parents_of}
use Rattle.cip_tree.specs.Branches.{Branch}
use Rattle.cip_tree.specs.FlatTree.{Placed, next_sphere, spheres, placed_to, told_in}

-- the parents that are given are theirs
pub parents_told : (all nodes : List Placed) → parents_of (map (told_in all) nodes) ≡ map (λ node. node.parent) nodes
parents_told all [] = refl
parents_told all (node ∷ nodes) = ap (λ parents. node.parent ∷ parents) (parents_told all nodes)

-- one sphere more
pub further : (tree : Branch) (sphere first : ℕ) (nodes : List Placed) → nodes ≡ placed_to tree sphere
    → first ≡ length (spheres tree sphere).before
    → nodes ++ next_sphere first (drop first nodes) ≡ placed_to tree (sphere + 1)
further tree sphere first nodes is at =
    let up = spheres tree sphere in
    let next : suc sphere ≡ sphere + 1 = omega arith in
    ap (λ n. nodes ++ next_sphere n (drop n nodes)) at
    ∙ ap (λ ns. ns ++ next_sphere (length up.before) (drop (length up.before) ns)) is
    ∙ ap (λ ns. placed_to tree sphere ++ next_sphere (length up.before) ns) (drop-append_seam up.before up.last)
    ∙ ap (placed_to tree) next

pub first_further : (tree : Branch) (sphere : ℕ) (nodes : List Placed) → nodes ≡ placed_to tree sphere
    → length nodes ≡ length (spheres tree (sphere + 1)).before
first_further tree sphere nodes is =
    let next : suc sphere ≡ sphere + 1 = omega arith in
    ap (length {A = Placed}) is ∙ ap (λ n. length (spheres tree n).before) next
