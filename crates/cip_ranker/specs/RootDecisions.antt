-- What two spheres show of the branches at the ligands of a root, and what it decides. Own.
use Rattle.std.specs.Prelude.{ℕ, ◌-◌, ◌*◌, ◌==◌, ◌&&◌, cond, List, [], ◌∷◌, ◌++◌, flat_map, map, replicate}
use Rattle.std.specs.Cmp.Lexicographic.{slice_cmp}
use Rattle.std.specs.Ordering.{nat_cmp}
use Rattle.std.specs.declared.option.Option.{Option}
use Rattle.cip_rank.specs.Comparison.{insert_down, sorted_down}
use Rattle.cip_mol.specs.declared.labels.outcome.Rule.TheVariants.{R1a}
use Rattle.cip_mol.specs.declared.site.Ligand.{Ligand}
use Rattle.cip_mol.specs.declared.site.Ligand.TheVariants.{Vertex, LonePair}
use Rattle.cip_digraph.specs.declared.decisions.decision.Decision.{Decision}
use Rattle.cip_digraph.specs.declared.drawing.graph.Edge.{Edge}
use Rattle.cip_digraph.specs.digraph.Digraph.{real_node, children}
use Rattle.cip_digraph.specs.graph.Graph.{Graph, other_end, vertex_at}
use Rattle.cip_digraph.specs.rings.Positions.{is_delocalised, mean_key}
use Rattle.cip_digraph.specs.rules.Decisions.{or_else}
use Rattle.cip_digraph.specs.rules.Keys.{atomic_key}
use Rattle.cip_digraph.specs.Asking.{decided, differing}
use Rattle.cip_digraph.specs.declared.decisions.branch_pair.BranchPair.{BranchPair}

-- keys put one after the other into keys that descend
abbrev pub put_all : List ℕ → List ℕ → List ℕ
put_all [] descending = descending
put_all (key ∷ keys) descending = put_all keys (insert_down nat_cmp key descending)

-- the atomic key of the duplicates that an edge gives below a vertex
abbrev pub copy_key : Graph → List (List ℕ) → ℕ → Edge → ℕ
copy_key graph positions vertex edge =
    cond ((edge.order == 2) && is_delocalised positions vertex) (mean_key graph positions vertex)
    (6 * (vertex_at graph (other_end vertex edge)).z)

-- the key of the node at the other end of an edge, none on the way back to a root
abbrev pub end_keys : Graph → ℕ → ℕ → List ℕ
end_keys graph root other = cond (root == other) [] (6 * (vertex_at graph other).z ∷ [])

-- and those of the duplicates
abbrev pub bond_keys : Graph → List (List ℕ) → ℕ → Edge → List ℕ
bond_keys graph positions vertex edge =
    replicate (cond edge.counted (edge.order - 1) 0) (copy_key graph positions vertex edge)

-- the vertex of a neighbour of a root, the atomic key of its node, and those of the nodes below it, highest first
pub record Branch : Type 0 where
  pub vertex : ℕ
  pub key : ℕ
  pub below : List ℕ

module _ (graph : Graph) (positions : List (List ℕ)) (root : ℕ) where
  abbrev pub branch_at : ℕ → Branch
  branch_at vertex = record {
    vertex = vertex;
    key = atomic_key graph positions (real_node vertex (root ∷ []));
    below = sorted_down nat_cmp
        (map (atomic_key graph positions) (children graph positions (real_node vertex (root ∷ []))));
  }

  abbrev pub branch_if : Ligand → List Branch
  branch_if LonePair = []
  branch_if (Vertex vertex) = branch_at vertex ∷ []

  abbrev pub branches_of : List Ligand → List Branch
  branches_of ligands = flat_map branch_if ligands

-- what Rule 1a decides in the first sphere, or else in the second one
abbrev pub told_between : Branch → Branch → Option Decision
told_between one other =
    decided R1a
    (or_else (differing 0 (nat_cmp one.key other.key)) (differing 1 (slice_cmp nat_cmp one.below other.below)))

-- it is asked of different vertices
abbrev pub answer_between : Branch → Branch → List BranchPair
answer_between one other =
    cond (one.vertex == other.vertex) []
    (record { first = one.vertex; second = other.vertex; decision = told_between one other } ∷ [])

abbrev pub answers_at : List Branch → Branch → List BranchPair
answers_at branches one = flat_map (answer_between one) branches

-- of each two, the earlier one first
abbrev pub answers_of : List Branch → List BranchPair
answers_of [] = []
answers_of (one ∷ others) = answers_at others one ++ answers_of others
