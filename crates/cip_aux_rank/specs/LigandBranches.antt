-- The ligands of a node seen from it as branches, followed by Rule 1a, and what the rules of constitution decide between
-- pairs of them. Own.
use Rattle.std.specs.Prelude.{◌≡◌, ◌<◌, ◌≤◌, ◌==◌, ◌++◌, ◌∷◌, ℕ, Bool, true, false, cond, List, [], filter, length, map, None, Some, slice_index}
use Rattle.std.specs.List.{list_any, range_with_len}
use Rattle.std.specs.declared.option.Option.{Option}
use Rattle.cip_aux.specs.Neighbours.{first_where}
use Rattle.cip_aux.specs.Views.{DigraphView, path_at}
use Rattle.cip_branches.specs.Deciding.{Branched, AreFollowed}
use Rattle.cip_partition.specs.Keys.{AreKeyed}
use Rattle.cip_partition.specs.Parting.{has_flag}
use Rattle.cip_branches.specs.Standing.{node_in, WantedIn}
use Rattle.cip_digraph.specs.digraph.Digraph.{Node, is_real}
use Rattle.cip_digraph.specs.digraph.NodeList.{parents_of}
use Rattle.cip_digraph.specs.digraph.Telling.{node_at}
use Rattle.cip_digraph.specs.digraph.View.{seen_from}
use Rattle.cip_digraph.specs.rules.Decisions.{order}
use Rattle.cip_digraph.specs.rules.Orders.{Seen, rule_1a}
use Rattle.cip_mol.specs.declared.labels.descriptor.Descriptor.{Descriptor}
use Rattle.cip_mol.specs.declared.labels.outcome.Rule.TheVariants.{R1a, R1b, R2}
use Rattle.cip_rank.specs.Tree.{children_of}
use Rattle.cip_rank.specs.View.{on_way, parent_list}
use Rattle.cip_digraph.specs.declared.decisions.branch_pair.BranchPair.{BranchPair}
use Rattle.cip_digraph.specs.Asking.{with_found}
use Rattle.cip_rules.specs.Deciding.{AreDecidedBy, AreOfConstitution}
use Rattle.cip_rules.specs.Orders.{decided_in_turn}

-- the nodes at the tops of branches, and the branches as they are
pub record LigandBranches : Type 0 where
  pub bound : ℕ
  pub tops : List ℕ
  pub now : Branched

abbrev pub is_ligand : ℕ → Option ℕ → Bool
is_ligand node None = false
is_ligand node (Some ligand) = ligand == node

-- the neighbours of a node that are asked about
abbrev pub asked_tops : List ℕ → List (Option ℕ) → ℕ → List ℕ
asked_tops parents ligands node =
    filter (λ top. list_any (is_ligand top) ligands) (children_of parents node ++ parent_list parents node)

-- some of its neighbours
pub record AreTops (parents : List ℕ) (node : ℕ) (tops : List ℕ) : Type 0 where
  pub test : ℕ → Bool
  pub are : tops ≡ filter test (children_of parents node ++ parent_list parents node)

-- the branch of a ligand
abbrev pub branch_of : List ℕ → ℕ → Option ℕ
branch_of tops ligand = first_where (λ branch. slice_index tops branch == ligand) (range_with_len 0 (length tops))

-- the digraph seen from a node, with descriptors of real nodes by their paths
abbrev pub seen_at : DigraphView → ℕ → (List ℕ → Option Descriptor) → Seen Node
seen_at sight node descriptor = seen_from sight.rules sight.graph sight.positions (path_at sight.nodes node) descriptor

abbrev pub described_by : (List ℕ → Option Descriptor) → Node → Option Descriptor
described_by descriptor node = cond (is_real node.kind) (descriptor node.path) None

-- the node at the top of a branch
abbrev pub top_node : DigraphView → List ℕ → ℕ → Node
top_node sight tops branch = node_at sight.nodes (slice_index tops branch)

-- below a child of the node an unresolved branch has nodes that hang below that child
pub record HangBelow (parents : List ℕ) (node : ℕ) (tops : List ℕ) (now : Branched) : Type 0 where
  pub each : (t place : ℕ) → WantedIn now t place → 0 < slice_index tops (slice_index now.layers.place_tree.branches place)
      → slice_index parents (slice_index tops (slice_index now.layers.place_tree.branches place)) ≡ node
      → on_way parents (slice_index now.layers.place_tree.nodes place)
      (slice_index tops (slice_index now.layers.place_tree.branches place)) ≡ true

-- a branch that is unresolved, whose top isn't after a node
pub record LeadsElsewhere (unresolved : List Bool) (tops : List ℕ) (node : ℕ) : Type 0 where
  pub branch : ℕ
  pub within : branch < length tops
  pub flagged : has_flag unresolved branch ≡ true
  pub low : slice_index tops branch ≤ node

-- Each place has a node of the digraph, the first ones those at the tops.
pub record ArePlaced (sight : DigraphView) (node : ℕ) (tops : List ℕ) (now : Branched) : Type 0 where
  pub followed : AreFollowed now
  pub keyed : AreKeyed (length sight.node_data) now.layers.place_tree
  pub few : length now.layers.place_tree.place_parents ≤ length sight.node_data
  pub top : (k : ℕ) → k < length tops → slice_index now.layers.place_tree.nodes k ≡ slice_index tops k
  pub low : (t place : ℕ) → WantedIn now t place → slice_index now.layers.place_tree.branches place < length tops
  pub hang : HangBelow (parents_of sight.node_data) node tops now

-- branches of a node's neighbours that were followed by Rule 1a, and pairs of them, which are decided by it, whichever
-- descriptors there are
pub record AreFollowedFrom (sight : DigraphView) (node : ℕ) (tops : List ℕ) (now : Branched) (begin requested : List BranchPair) : Type
    0 where
  pub placed : ArePlaced sight node tops now
  pub decided : (descriptor : List ℕ → Option Descriptor) → AreDecidedBy (seen_at sight node descriptor) true (node_at sight.nodes)
      (node_in (node_at sight.nodes) now) (length tops) begin (R1a ∷ [])
      (rule_1a (seen_at sight node descriptor) (seen_at sight node descriptor).height) now requested

-- Rules 1b and 2 were taken too, as far as a pair was undecided: pairs are decided by constitution
pub record AreConstituted (sight : DigraphView) (node : ℕ) (tops : List ℕ) (now : Branched) (begin requested : List BranchPair) : Type
    0 where
  pub placed : ArePlaced sight node tops now
  pub decided : (descriptor : List ℕ → Option Descriptor) → AreOfConstitution (seen_at sight node descriptor)
      (node_at sight.nodes) (node_in (node_at sight.nodes) now) (length tops) begin now requested
  pub noted : (descriptor : List ℕ → Option Descriptor) → requested
      ≡ map (with_found (decided_in_turn (seen_at sight node descriptor) true (R1a ∷ R1b ∷ R2 ∷ []) (top_node sight tops)))
      begin

-- each pair has the order of the nodes at the tops of its branches, with R and with S first in the last rule
pub record AreOrdered (sight : DigraphView) (node : ℕ) (descriptor : List ℕ → Option Descriptor) (tops : List ℕ)
    (begin requested turned : List BranchPair) : Type 0 where
  pub natural : requested ≡ map (with_found (λ a b. order (seen_at sight node descriptor) true (top_node sight tops a)
      (top_node sight tops b))) begin
  pub other : turned ≡ map (with_found (λ a b. order (seen_at sight node descriptor) false (top_node sight tops a)
      (top_node sight tops b))) begin
