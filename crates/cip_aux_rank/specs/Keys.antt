-- The keys of Rules 1b and 2 by the numbers of nodes, seen from one of them. Own.
use Rattle.std.specs.Prelude.{◌≡◌, ◌<◌, ◌≤◌, ◌+◌, ℕ, ℤ, Bool, List, length, map, slice_index}
use Rattle.std.specs.List.{range_with_len}
use Rattle.cip_aux.specs.Views.{IsReal, DigraphView, path_at}
use Rattle.cip_partition.specs.Parting.{has_flag}
use Rattle.cip_digraph.specs.digraph.Telling.{node_at}
use Rattle.cip_digraph.specs.digraph.NodeList.{parents_of}
use Rattle.cip_digraph.specs.digraph.View.{apart, common}
use Rattle.cip_digraph.specs.rules.Keys.{distance_key, lower_precedes}
use Rattle.cip_rank.specs.Tree.{spheres_of}
use Rattle.cip_rank.specs.View.{on_way}

-- flags of the nodes on the way from the root to one
pub record IsFlagged (parents : List ℕ) (node : ℕ) (way : List Bool) : Type 0 where
  pub each : (x : ℕ) → x < length parents → has_flag way x ≡ on_way parents node x

abbrev pub distance_at : DigraphView → ℕ → ℕ → ℕ
distance_at sight from node = distance_key sight.rules (apart (path_at sight.nodes from)) (node_at sight.nodes node)

abbrev pub distance_keys : DigraphView → ℕ → List ℤ
distance_keys sight from =
    map (λ node. lower_precedes (distance_at sight from node)) (range_with_len 0 (length sight.node_data))

-- of n nodes, by number: of the real ones, how many steps each is away from one
pub record KnowSteps (sight : DigraphView) (from count : ℕ) (steps : List ℕ) : Type 0 where
  pub len : length steps ≡ count
  pub each : (node : ℕ) → node < count → IsReal sight.nodes node
      → slice_index steps node ≡ apart (path_at sight.nodes from) (path_at sight.nodes node)
  pub few : (node : ℕ) → node < count → slice_index steps node ≤ length sight.node_data + node

-- A node on the way from the root to one, so far from the root as the paths of this one and another go together. n
-- steps lead from the root to each of them.
pub record IsMeet (sight : DigraphView) (from node meet : ℕ) : Type 0 where
  pub within : meet < length sight.nodes
  pub both : common (path_at sight.nodes from) (path_at sight.nodes node)
      ≡ slice_index (spheres_of (parents_of sight.node_data)) meet + 1
  pub low : slice_index (spheres_of (parents_of sight.node_data)) meet
      ≤ slice_index (spheres_of (parents_of sight.node_data)) node
  pub ligand_branches : slice_index (spheres_of (parents_of sight.node_data)) meet
      ≤ slice_index (spheres_of (parents_of sight.node_data)) from
