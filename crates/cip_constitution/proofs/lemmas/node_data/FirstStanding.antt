-- The first of a range of nodes that stands for a vertex.
use Rattle.std.proofs.Common.{◌≡◌, ◌<◌, ◌+◌, ◌-◌, ℕ, suc, true, false, cond, List, length, Some, ap, ◌∙◌, arith}
use Rattle.std.specs.List.{range_with_len}
use Rattle.std.proofs.lemmas.List.{length-map}
use Rattle.cip_digraph.specs.declared.nodes.NodeData.{NodeData}
use Rattle.cip_digraph.specs.digraph.NodeList.{told_at, parents_of}
use Rattle.cip_constitution.specs.Standing.{stands_told, first_standing}

-- there are as many parents as nodes
pub as_many : (all : List NodeData) (parents : List ℕ) → parents ≡ parents_of all → length parents ≡ length all
as_many all parents are = ap (λ (ps : List ℕ). length ps) are ∙ simp length-map

pub passed_over : (all : List NodeData) (vertex node past : ℕ) → node < past → stands_told vertex (told_at all node) ≡ false
    → first_standing all vertex (range_with_len node (past - node)) ≡ first_standing all vertex
    (range_with_len (node + 1) (past - (node + 1)))
passed_over all vertex node past lt e =
    let count : past - node ≡ suc (past - (node + 1)) = omega arith in
    ap (λ n. first_standing all vertex (range_with_len node n)) count
    ∙ ap (λ b. cond b (Some node) (first_standing all vertex (range_with_len (node + 1) (past - (node + 1))))) e

pub found_here : (all : List NodeData) (vertex node past : ℕ) → node < past → stands_told vertex (told_at all node) ≡ true
    → first_standing all vertex (range_with_len node (past - node)) ≡ Some node
found_here all vertex node past lt e =
    let count : past - node ≡ suc (past - (node + 1)) = omega arith in
    ap (λ n. first_standing all vertex (range_with_len node n)) count
    ∙ ap (λ b. cond b (Some node) (first_standing all vertex (range_with_len (node + 1) (past - (node + 1))))) e
