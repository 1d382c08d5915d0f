-- What a list of nodes by number says of a digraph: the nodes of its first spheres, in order of spheres, and how they
-- hang. Own.
use Rattle.std.specs.Prelude.{
  ◌≡◌,
  ◌<◌,
  ◌+◌,
  ℕ,
  zero,
  suc,
  List,
  [],
  ◌∷◌,
  ◌++◌,
  length,
  replicate,
  None,
  Some,
  slice_index_or,
}
use Rattle.std.specs.declared.option.Option.{Option}
use Rattle.cip_rank.specs.declared.rules.Rules.TheVariants.{Wording2013, Wording2018}
use Rattle.cip_digraph.specs.declared.nodes.NodeData.{NodeData}
use Rattle.cip_digraph.specs.digraph.Digraph.{NodeKind, Real, Closure, Multiple, Delocalised, Node, children, sphere, digraph}
use Rattle.cip_digraph.specs.graph.Graph.{Graph}
use Rattle.cip_digraph.specs.rules.Keys.{atomic_key, mass_key, distance_key, sphere_in_digraph, counterpart}
use Rattle.cip_digraph.specs.digraph.NodeList.{told_at, parents_of}
use Rattle.cip_digraph.specs.digraph.View.{real_at}

abbrev pub node_at : List Node → ℕ → Node
node_at nodes number = slice_index_or nodes number (real_at [])

-- the number of the real node of a path
pub record StandsAt (nodes : List Node) (path : List ℕ) (number : ℕ) : Type 0 where
  pub within : number < length nodes
  pub node : node_at nodes number ≡ real_at path

abbrev pub Stands : List Node → List ℕ → Option ℕ → Type 0
Stands nodes path None = ⊥
Stands nodes path (Some number) = StandsAt nodes path number

-- where the counterpart of a node is; real nodes and delocalised duplicates have none
abbrev pub IsCounterpart : List Node → Node → Option ℕ → Type 0
IsCounterpart nodes node place = by_kind node.kind
  where
    by_kind : NodeKind → Type 0
    by_kind Real = place ≡ None
    by_kind Closure = Stands nodes (counterpart node) place
    by_kind Multiple = Stands nodes (counterpart node) place
    by_kind Delocalised = place ≡ None

-- the parents of the children of nodes, of which the first has this number
abbrev pub parents_below : Graph → List (List ℕ) → ℕ → List Node → List ℕ
parents_below graph positions number [] = []
parents_below graph positions number (node ∷ nodes) =
    replicate (length (children graph positions node)) number ++ parents_below graph positions (number + 1) nodes

-- the number of the first node of a sphere
abbrev pub first_of : Graph → List (List ℕ) → ℕ → ℕ → ℕ
first_of graph positions root zero = 0
first_of graph positions root (suc before) = length (digraph graph positions root before)

-- the parent of each node up to a sphere, by number; the root's own entry is 0
abbrev pub parents_in : Graph → List (List ℕ) → ℕ → ℕ → List ℕ
parents_in graph positions root zero = 0 ∷ []
parents_in graph positions root (suc before) =
    parents_in graph positions root before
    ++ parents_below graph positions (first_of graph positions root before) (sphere graph positions root before)

module _ (graph : Graph) (positions : List (List ℕ)) where
  -- what is known of a node among these nodes
  pub record TellsOf (nodes : List Node) (node : Node) (node_data : NodeData) : Type 0 where
    pub kind : node_data.kind ≡ node.kind
    pub vertex : node_data.vertex ≡ node.vertex
    pub counterpart : IsCounterpart nodes node node_data.counterpart
    pub atomic : node_data.atomic ≡ atomic_key graph positions node
    pub mass : node_data.mass ≡ mass_key graph node
    pub as_printed : node_data.as_printed ≡ distance_key Wording2013 sphere_in_digraph node
    pub as_corrected : node_data.as_corrected ≡ distance_key Wording2018 sphere_in_digraph node

  -- the list describes the nodes up to a sphere, one by one
  pub record Tells (root last : ℕ) (all : List NodeData) : Type 0 where
    pub len : length all ≡ length (digraph graph positions root last)
    pub parents : parents_of all ≡ parents_in graph positions root last
    pub each : (number : ℕ) → number < length all →
        let nodes = digraph graph positions root last in
        TellsOf nodes (node_at nodes number) (told_at all number)

  -- the list describes the whole digraph: there is no sphere after the last one
  pub record TellsWhole (root last : ℕ) (all : List NodeData) : Type 0 where
    pub tells : Tells root last all
    pub none : sphere graph positions root (suc last) ≡ []
