-- What Rule 1a decides between the branches of a root's ligands, noted while they are followed. Own.
use Rattle.std.specs.Prelude.{◌≡◌, ◌<◌, ◌-◌, ℕ, suc, pos, List, [], ◌∷◌, None, length, map}
use Rattle.std.specs.declared.cmp.Ordering.{Ordering}
use Rattle.cip_rank.specs.Comparison.{comparison}
use Rattle.cip_mol.specs.declared.labels.outcome.Rule.TheVariants.{R1a}
use Rattle.cip_mol.specs.declared.site.Ligand.TheVariants.{Vertex}
use Rattle.cip_digraph.specs.declared.nodes.NodeData.{NodeData}
use Rattle.cip_digraph.specs.digraph.Digraph.{Node, real_node, children, digraph}
use Rattle.cip_digraph.specs.digraph.View.{view_children}
use Rattle.cip_digraph.specs.graph.Graph.{Graph}
use Rattle.cip_digraph.specs.rules.Auxiliary.{ligand_node}
use Rattle.cip_digraph.specs.rules.Keys.{atomic_key}
use Rattle.cip_digraph.specs.rules.Orders.{all_tie}
use Rattle.cip_digraph.specs.declared.decisions.branch_pair.BranchPair.{BranchPair}
use Rattle.cip_digraph.specs.Asking.{with_found}
use Rattle.cip_rules.specs.Orders.{found_below}
use Rattle.cip_constitution.specs.Following.{named}
use Rattle.cip_constitution.specs.Standing.{number_at}
use Rattle.cip_constitution.specs.declared.pairs.VertexPair.{VertexPair}

-- the branch of the root's child that stands for a vertex
abbrev pub branch_at : List NodeData → ℕ → ℕ
branch_at all vertex = number_at all vertex - 1

-- two vertices by numbers, undecided yet
abbrev pub asked_by : (ℕ → ℕ) → VertexPair → BranchPair
asked_by number pair = record { first = number pair.a; second = number pair.b; decision = None }

module _ (graph : Graph) (positions : List (List ℕ)) (root bound : ℕ) where
  abbrev pub by_atoms : ℕ → Node → Node → Ordering
  by_atoms depth = comparison (children graph positions) all_tie (λ node. pos (atomic_key graph positions node)) depth

  -- the node at the top of a branch
  abbrev pub top_of : ℕ → Node
  top_of branch = named graph positions root bound (suc branch)

  -- Each pair of vertices has the branches of the nodes that stand for them, and what Rule 1a decides between these
  -- within n spheres.
  pub record Notes (spheres : ℕ) (pairs : List VertexPair) (requested : List BranchPair) : Type 0 where
    pub branch : ℕ → ℕ
    pub within : (vertex : ℕ) → suc (branch vertex) < length (digraph graph positions root 1)
    pub stands : (vertex : ℕ) (node : Node)
        → ligand_node (view_children graph positions (root ∷ []) (real_node root [])) (Vertex vertex) ≡ node ∷ []
        → top_of (branch vertex) ≡ node
    pub noted : requested ≡ map (with_found (found_below R1a by_atoms top_of spheres)) (map (asked_by branch) pairs)
