-- Branches of a root's children that were followed to their ends with the whole digraph, and what the rules after Rule
-- 1a go on from. Own.
use Rattle.std.specs.Prelude.{◌≡◌, ◌<◌, ◌≤◌, ℕ, zero, suc, Bool, true, false, if◌then◌else◌, List, [], ◌∷◌, length, map, slice_index, slice_set}
use Rattle.std.specs.List.{AllByRecursion}
use Rattle.std.specs.declared.option.Option.{Option}
use Rattle.cip_arena.specs.Growth.{Growth, Holds}
use Rattle.cip_branches.specs.Deciding.{Branched, AreFollowed}
use Rattle.cip_branches.specs.Standing.{node_in}
use Rattle.cip_partition.specs.Keys.{AreKeyed}
use Rattle.cip_partition.specs.Parting.{has_flag}
use Rattle.cip_rank.specs.declared.rules.Rules.{Rules}
use Rattle.cip_mol.specs.declared.labels.descriptor.Descriptor.{Descriptor}
use Rattle.cip_mol.specs.declared.labels.outcome.Rule.TheVariants.{R3}
use Rattle.cip_mol.specs.declared.site.Ligand.TheVariants.{Vertex}
use Rattle.cip_digraph.specs.digraph.Digraph.{Node, digraph, real_node, sphere}
use Rattle.cip_digraph.specs.digraph.Telling.{node_at}
use Rattle.cip_digraph.specs.digraph.View.{seen_from, view_children}
use Rattle.cip_digraph.specs.graph.Graph.{Graph}
use Rattle.cip_digraph.specs.graph.SoundGraphs.{IsSound}
use Rattle.cip_digraph.specs.rules.Auxiliary.{ligand_node}
use Rattle.cip_digraph.specs.rules.Decisions.{order}
use Rattle.cip_digraph.specs.rules.Orders.{Seen, rule_2}
use Rattle.cip_digraph.specs.declared.decisions.branch_pair.BranchPair.{BranchPair}
use Rattle.cip_digraph.specs.Asking.{AreWithin, with_found}
use Rattle.cip_rules.specs.Deciding.{AreDecidedBy, AreOfConstitution}
use Rattle.cip_rules.specs.DescriptorMap.{AreDescriptorsOf}
use Rattle.cip_rules.specs.Orders.{rules_before}
use Rattle.cip_constitution.specs.Following.{Trying, Follows, named}
use Rattle.cip_constitution.specs.Noting.{Notes, asked_by}
use Rattle.cip_constitution.specs.declared.pairs.VertexPair.{VertexPair}

-- There is no sphere after the last one, up to which branches were followed, and it is noted what Rule 1a decides.
pub record AreFollowedOut (graph : Graph) (positions : List (List ℕ)) (growth : Growth) (trying : Trying) : Type 0 where
  pub holds : Holds graph positions growth
  pub sound : IsSound graph
  pub low : growth.root < length graph.vertices
  pub some : 0 < growth.sphere
  pub last : 0 < length (sphere graph positions growth.root growth.sphere)
  pub none : sphere graph positions growth.root (suc growth.sphere) ≡ []
  pub fits : length growth.nodes ≤ growth.bound
  pub follows : Follows graph positions growth.root growth.bound growth.sphere trying.branched
  pub notes : Notes graph positions growth.root growth.bound growth.sphere trying.pairs trying.noted

module _ (rules : Rules) (graph : Graph) (positions : List (List ℕ)) (growth : Growth) where
  -- the digraph as its root sees it, with these descriptors
  abbrev pub seen_with : (List ℕ → Option Descriptor) → Seen Node
  seen_with = seen_from rules graph positions (growth.root ∷ [])

  -- the node at a place
  abbrev pub node_of : Branched → ℕ → Node
  node_of = node_in (named graph positions growth.root growth.bound)

  -- Each pair of vertices has the branches of the nodes that stand for them, and is decided by constitution, whichever
  -- descriptors there are. Where one isn't, later rules go on from the present numbers.
  pub record AreConstituted (pairs : List VertexPair) (now : Branched) (requested : List BranchPair) : Type 0 where
    pub branch : ℕ → ℕ
    pub count : ℕ
    pub within : (vertex : ℕ) → branch vertex < count
    pub stands : (vertex : ℕ) (node : Node)
        → ligand_node (view_children graph positions (growth.root ∷ []) (real_node growth.root [])) (Vertex vertex)
        ≡ node ∷ [] → node_of now (branch vertex) ≡ node
    pub followed : AreFollowed now
    pub keyed : AreKeyed (length growth.nodes) now.layers.place_tree
    pub few : length now.layers.place_tree.place_parents < length growth.nodes
    pub names : (number : ℕ) → number < length growth.nodes
        → named graph positions growth.root growth.bound number
        ≡ node_at (digraph graph positions growth.root growth.sphere) number
    pub decided : (descriptor : List ℕ → Option Descriptor)
        → AreOfConstitution (seen_with descriptor) (named graph positions growth.root growth.bound) (node_of now) count
        (map (asked_by branch) pairs) now requested

-- By these descriptors of nodes, pairs that constitution left open are decided by all rules, with R and with S first in the
-- last one.
pub record AreOrdered (old : Trying) (descriptors : List (Option Descriptor)) (natural turned : List BranchPair) : Type 0 where
  pub each : (seen : Seen Node) (named node : ℕ → Node) (count : ℕ) (begin : List BranchPair)
      → AllByRecursion (AreWithin count) begin
      → AreDecidedBy seen true named node count begin (rules_before R3) (rule_2 seen seen.height) old.branched old.noted
      → AreDescriptorsOf named seen.descriptor descriptors old.branched
      → (natural ≡ map (with_found (λ a b. order seen true (node a) (node b))) begin)
      × (turned ≡ map (with_found (λ a b. order seen false (node a) (node b))) begin)

-- flags, with those of the nodes at n places of branches that are still unresolved
abbrev pub with_flags : Branched → ℕ → List Bool → List Bool
with_flags now zero flags = flags
with_flags now (suc place) flags =
    let before = with_flags now place flags in
    if has_flag now.unresolved (slice_index now.layers.place_tree.branches place)
    then slice_set before (slice_index now.layers.place_tree.nodes place) true else before
