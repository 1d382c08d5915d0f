-- The branches of a root's children, followed with the digraph by Rule 1a. Own.
use Rattle.std.specs.Prelude.{◌≡◌, ◌<◌, ◌≤◌, ◌∷◌, ℕ, suc, pos, List, length, slice_index}
use Rattle.cip_branches.specs.Deciding.{Branched, AreFollowed, AreDecided}
use Rattle.cip_partition.specs.Keys.{AreKeyed}
use Rattle.cip_digraph.specs.digraph.Digraph.{Node, children, digraph}
use Rattle.cip_digraph.specs.graph.Graph.{Graph}
use Rattle.cip_digraph.specs.rules.Keys.{atomic_key}
use Rattle.cip_digraph.specs.rules.Orders.{all_tie}
use Rattle.cip_digraph.specs.digraph.Telling.{node_at, first_of}
use Rattle.cip_digraph.specs.declared.decisions.branch_pair.BranchPair.{BranchPair}
use Rattle.cip_constitution.specs.declared.pairs.VertexPair.{VertexPair}

-- what settling keeps: branches, each two ligands, and what is decided between these
pub record Trying : Type 0 where
  pub bound : ℕ
  pub branched : Branched
  pub pairs : List VertexPair
  pub noted : List BranchPair

-- Numbers by node: the root's child of a branch comes after the root, and so after those of the branches before.
abbrev pub numbers_of : Branched → List ℕ
numbers_of branched = 0 ∷ branched.layers.ranked.numbers

module _ (graph : Graph) (positions : List (List ℕ)) (root bound : ℕ) where
  -- the node of a number, whichever sphere is the last one: there are no more spheres than there is room for nodes
  abbrev pub named : ℕ → Node
  named number = node_at (digraph graph positions root bound) number

  -- Each child of the root has a branch. The places show nodes of the digraph up to a sphere, but the root; those of the
  -- last sphere show nodes of it that rise.
  pub record Follows (sphere : ℕ) (branched : Branched) : Type 0 where
    pub last : suc branched.last ≡ sphere
    pub followed : AreFollowed branched
    pub decided : AreDecided (children graph positions) all_tie (λ node. pos (atomic_key graph positions node)) named
        branched
    pub count : suc (length branched.unresolved) ≡ length (digraph graph positions root 1)
    pub top : (k : ℕ) → k < length branched.unresolved → slice_index branched.layers.place_tree.nodes k ≡ suc k
    pub keyed : AreKeyed (length (digraph graph positions root sphere)) branched.layers.place_tree
    pub few : length branched.layers.place_tree.place_parents < length (digraph graph positions root sphere)
    pub outer : (place : ℕ) → branched.first ≤ place → place < length branched.layers.place_tree.place_parents
        → first_of graph positions root sphere ≤ slice_index branched.layers.place_tree.nodes place
    pub rise : (p q : ℕ) → branched.first ≤ p → p < q → q < length branched.layers.place_tree.place_parents
        → slice_index branched.layers.place_tree.nodes p < slice_index branched.layers.place_tree.nodes q
