-- A node that is seen in a tree has at most all nodes as children, and a parent.
use Rattle.std.proofs.Common.{◌≤◌, ◌+◌, ◌*◌, ◌==◌, ℕ, zero, suc, Bool, true, false, cond, not, List, [], ◌∷◌, ◌++◌, length, filter, slice_index, arith}
use Rattle.std.specs.List.{range_with_len}
use Rattle.std.proofs.lemmas.List.{length-append}
use Rattle.std.proofs.lemmas.List.Sums.{sum_by-cons}
use Rattle.cip_rank.specs.Tree.{children_from, children_of}
use Rattle.cip_rank.specs.View.{parent_list}
use Rattle.cip_branches.specs.ViewedTree.{kids_around}
use Rattle.cip_branches.specs.Walking.{kids_left}
use Rattle.cip_partition.specs.Parting.{has_flag}

one_more : (b : Bool) (n : ℕ) (ns : List ℕ) (most : ℕ) → length ns ≤ most → length (cond b (n ∷ ns) ns) ≤ suc most
one_more true n ns most le = omega (arith, le)
one_more false n ns most le = omega (arith, le)

children_few : (i : ℕ) (ps : List ℕ) (n : ℕ) → length (children_from i ps n) ≤ length ps
children_few i [] n = omega arith
children_few i (p ∷ ps) n = one_more (p == n) i (children_from (i + 1) ps n) (length ps) (children_few (i + 1) ps n)

tree_few : (ps : List ℕ) (n : ℕ) → length (children_of ps n) ≤ length ps
tree_few [] n = omega arith
tree_few (root ∷ ps) n = let few = children_few 1 ps n in omega (arith, few)

parent_few : (b : Bool) (n : ℕ) → length (cond b [] (n ∷ [])) ≤ 1
parent_few true n = omega arith
parent_few false n = omega arith

filter_few : (p : ℕ → Bool) (ns : List ℕ) → length (filter p ns) ≤ length ns
filter_few p [] = omega arith
filter_few p (n ∷ ns) = one_more (p n) n (filter p ns) (length ns) (filter_few p ns)

off_few : (b : Bool) (p : ℕ → Bool) (ps : List ℕ) (n : ℕ)
    → length (cond b (filter p (children_of ps n) ++ parent_list ps n) (children_of ps n)) ≤ length ps + 1
off_few true p ps n =
    let kids = tree_few ps n in
    let some = filter_few p (children_of ps n) in
    let parent = parent_few (n == 0) (slice_index ps n) in
    let both = length-append (filter p (children_of ps n)) (parent_list ps n) in
    omega (arith, kids, some, parent, both)
off_few false p ps n = let kids = tree_few ps n in omega (arith, kids)

pub around_few : (ps : List ℕ) (way : List Bool) (n : ℕ) → length (kids_around ps way n) ≤ length ps + 1
around_few ps way n = off_few (has_flag way n) (λ c. not (has_flag way c)) ps n

pub left_few : (ps : List ℕ) (way : List Bool) (nodes : List ℕ) (place more : ℕ)
    → kids_left (kids_around ps way) nodes place more ≤ more * length ps + more
left_few ps way nodes place zero = omega arith
left_few ps way nodes place (suc more) =
    let kids : ℕ → ℕ = λ p. length (kids_around ps way (slice_index nodes p)) in
    let here = around_few ps way (slice_index nodes place) in
    let rest = left_few ps way nodes (place + 1) more in
    let all = sum_by-cons kids place (range_with_len (place + 1) more) in
    omega (arith, here, rest, all)
