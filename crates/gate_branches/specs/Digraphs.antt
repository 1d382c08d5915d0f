-- A small tree as a digraph that is seen from one of its nodes: the keys of its nodes by number, and their descriptors.
-- Nodes are numbers. Own.
use Rattle.std.specs.Prelude.{ℕ, ℤ, pos, Bool, true, List, None, map, ◌≡◌}
use Rattle.std.specs.List.{slice_index_or}
use Rattle.std.specs.declared.option.Option.{Option}
use Rattle.cip_mol.specs.declared.labels.descriptor.Descriptor.{Descriptor}
use Rattle.cip_mol.specs.declared.labels.outcome.Rule.{Rule}
use Rattle.cip_mol.specs.declared.labels.outcome.Rule.TheVariants.{R1a, R1b, R2, R3, R4a, R4b, R4c, R5}
use Rattle.cip_rank.specs.Ranking.{key_at}
use Rattle.cip_branches.specs.Deciding.{Branched, AreFollowed, AreDecided}
use Rattle.cip_branches.specs.Standing.{node_in, StandsBy, WantedIn}
use Rattle.cip_branches.specs.ViewedTree.{kids_around}
use Rattle.cip_branches.specs.Views.{IsEnded}
use Rattle.cip_digraph.specs.rules.Orders.{Seen}
use Rattle.cip_rules.specs.Orders.{key_by, key_of_descriptor, order_before}

-- the parents of the nodes, the flags of those on the way to the one that the tree is seen from, a list of keys for each
-- of three rules, the descriptors, and the outermost sphere
pub record Columns : Type 0 where
  pub parents : List ℕ
  pub way : List Bool
  pub atoms : List ℕ
  pub distances : List ℕ
  pub masses : List ℕ
  pub descriptors : List (Option Descriptor)
  pub height : ℕ

-- a key of a node; 0 where the list has none
abbrev pub listed : List ℕ → ℕ → ℤ
listed keys = key_at (map pos keys)

-- a number names itself
abbrev pub itself : ℕ → ℕ
itself node = node

abbrev pub seen_of : Columns → Seen ℕ
seen_of nodes = record {
  children = kids_around nodes.parents nodes.way;
  height = nodes.height;
  atomic = listed nodes.atoms;
  distance = listed nodes.distances;
  mass = listed nodes.masses;
  descriptor = λ node. slice_index_or nodes.descriptors node None;
}

-- the keys of the nodes by a rule
abbrev pub keys_by : Columns → Rule → List ℤ
keys_by nodes R1a = map pos nodes.atoms
keys_by nodes R1b = map pos nodes.distances
keys_by nodes R2 = map pos nodes.masses
keys_by nodes R3 = map (key_of_descriptor true R3) nodes.descriptors
keys_by nodes R4a = map (key_of_descriptor true R4a) nodes.descriptors
keys_by nodes R4b = map (key_of_descriptor true R4b) nodes.descriptors
keys_by nodes R4c = map (key_of_descriptor true R4c) nodes.descriptors
keys_by nodes R5 = map (key_of_descriptor true R5) nodes.descriptors

-- Branches are ordered by Rule 1a as far as they were followed.
pub record AreRankedFirst (nodes : Columns) (now : Branched) : Type 0 where
  pub followed : AreFollowed now
  pub decided : AreDecided (seen_of nodes).children (order_before (seen_of nodes) true R1a)
      (key_by (seen_of nodes) true R1a) itself now

-- Branches are ordered by the rules before one, as deep as the digraph is.
pub record AreRankedBefore (nodes : Columns) (rule : Rule) (now : Branched) : Type 0 where
  pub followed : AreFollowed now
  pub stands : StandsBy (seen_of nodes).children itself (order_before (seen_of nodes) true rule) now

-- Branches end in the outermost sphere of the digraph.
pub record EndInside (nodes : Columns) (now : Branched) : Type 0 where
  pub ended : IsEnded (seen_of nodes).children (node_in itself now) (WantedIn now) now.last
  pub last : now.last ≡ nodes.height
