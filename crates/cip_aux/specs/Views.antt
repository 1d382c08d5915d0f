-- A whole digraph by the numbers of its nodes, as it is ranked from one of them. Own.
use Rattle.std.specs.Prelude.{◌≡◌, ◌<◌, ℕ, Bool, true, List, length}
use Rattle.std.specs.declared.option.Option.{Option}
use Rattle.cip_rank.specs.declared.rules.Rules.{Rules}
use Rattle.cip_mol.specs.declared.labels.descriptor.Descriptor.{Descriptor}
use Rattle.cip_digraph.specs.declared.nodes.NodeData.{NodeData}
use Rattle.cip_digraph.specs.digraph.Digraph.{Node, is_real, digraph}
use Rattle.cip_digraph.specs.digraph.Telling.{node_at, TellsWhole}
use Rattle.cip_digraph.specs.digraph.View.{seen_from}
use Rattle.cip_digraph.specs.graph.Graph.{Graph}
use Rattle.cip_digraph.specs.graph.SoundGraphs.{IsSound}
use Rattle.cip_digraph.specs.rules.Decisions.{order}
use Rattle.cip_aux.specs.WholeDigraph.{IsTold}
use Rattle.cip_digraph.specs.Sides.{found_side, Sides}

-- a whole digraph, up to its last sphere, what is known of its nodes, and the wording by which it is ranked
pub record WholeDigraph : Type 0 where
  pub rules : Rules
  pub graph : Graph
  pub positions : List (List ℕ)
  pub root : ℕ
  pub last : ℕ
  pub node_data : List NodeData

pub record IsWholeTold (whole : WholeDigraph) : Type 0 where
  pub sound : IsSound whole.graph
  pub low : whole.root < length whole.graph.vertices
  pub tells : TellsWhole whole.graph whole.positions whole.root whole.last whole.node_data

-- the same with its nodes
pub record DigraphView : Type 0 where
  pub rules : Rules
  pub graph : Graph
  pub positions : List (List ℕ)
  pub root : ℕ
  pub node_data : List NodeData
  pub nodes : List Node

abbrev pub sight_of : WholeDigraph → DigraphView
sight_of whole = record {
  rules = whole.rules;
  graph = whole.graph;
  positions = whole.positions;
  root = whole.root;
  node_data = whole.node_data;
  nodes = digraph whole.graph whole.positions whole.root whole.last;
}

-- what is known of the nodes of a whole digraph goes with them
pub record Shows (sight : DigraphView) : Type 0 where
  pub sound : IsSound sight.graph
  pub low : sight.root < length sight.graph.vertices
  pub node_data : IsTold sight.graph sight.positions sight.root sight.nodes sight.node_data

abbrev pub path_at : List Node → ℕ → List ℕ
path_at nodes number = (node_at nodes number).path

pub record IsReal (nodes : List Node) (number : ℕ) : Type 0 where
  pub within : number < length nodes
  pub real : is_real (node_at nodes number).kind ≡ true

-- as the nodes compare by all rules, seen from one of them with these descriptors
abbrev pub seen_sides : DigraphView → ℕ → (List ℕ → Option Descriptor) → Sides
seen_sides sight from descriptor r_first a b =
    let seen = seen_from sight.rules sight.graph sight.positions (path_at sight.nodes from) descriptor in
    found_side (order seen r_first (node_at sight.nodes a) (node_at sight.nodes b))

pub record SidesAre (sight : DigraphView) (from : ℕ) (descriptor : List ℕ → Option Descriptor) (sides : Sides) : Type 0 where
  pub each : (r_first : Bool) (a b : ℕ) → a < length sight.nodes → b < length sight.nodes
      → sides r_first a b ≡ seen_sides sight from descriptor r_first a b
