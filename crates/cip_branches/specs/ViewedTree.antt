-- The neighbours of a node that lead away from the one that a tree is seen from. Own.
use Rattle.std.specs.Prelude.{ℕ, Bool, not, List, filter}
use Rattle.cip_rank.specs.View.{children_off}
use Rattle.cip_partition.specs.Parting.{has_flag}

-- those nodes that have no flag
abbrev pub kept_off : List Bool → List ℕ → List ℕ
kept_off way nodes = filter (λ node. not (has_flag way node)) nodes

-- Of a node on the way from the root, which flags show, its children off the way and its parent; of any other its
-- children. Without flags it is seen from the root.
abbrev pub kids_around : List ℕ → List Bool → ℕ → List ℕ
kids_around parents way node = children_off (has_flag way) parents node
