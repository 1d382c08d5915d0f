-- A tree seen from one of its nodes: the same nodes and neighbours, with another root. Hanson et al. 2018, digraphs of auxiliary
-- descriptors; own: children by number, then the parent.
use Rattle.std.specs.Prelude.{ℕ, zero, suc, Bool, cond, not, ◌==◌, ◌&&◌, ◌||◌, List, [], ◌∷◌, ◌++◌, filter, slice_index}
use Rattle.cip_rank.specs.Tree.{children_of}

-- whether x is n or is above it; k is any number that n isn't above
abbrev pub is_above : List ℕ → ℕ → ℕ → ℕ → Bool
is_above ps zero n x = n == x
is_above ps (suc k) n x = (n == x) || (not (n == 0) && is_above ps k (slice_index ps n) x)

-- whether x is on the way from a node to the root
unfoldable pub on_way : List ℕ → ℕ → ℕ → Bool
on_way ps from x = is_above ps from from x

-- the parent of a node, as a list
abbrev pub parent_list : List ℕ → ℕ → List ℕ
parent_list ps n = cond (n == 0) [] (slice_index ps n ∷ [])

-- the children of n, where the root has moved along a way: on the way, those off it, and the parent
abbrev pub children_off : (ℕ → Bool) → List ℕ → ℕ → List ℕ
children_off way ps n = cond (way n) (filter (λ c. not (way c)) (children_of ps n)
    ++ parent_list ps n) (children_of ps n)

-- the children of n in the view from a node
unfoldable pub children_seen : List ℕ → ℕ → ℕ → List ℕ
children_seen ps from = children_off (on_way ps from) ps
