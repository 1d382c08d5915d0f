-- A digraph in boxes as the list of its nodes, sphere after sphere, the children of each in their order. Own.
use Rattle.std.specs.Prelude.{◌+◌, ◌&&◌, ℕ, zero, suc, nat_eq, Bool, List, [], ◌∷◌, ◌++◌, map, length, None}
use Rattle.std.specs.List.{position}
use Rattle.std.specs.Cmp.Lexicographic.{pointwise}
use Rattle.std.specs.declared.option.Option.{Option}
use Rattle.cip_digraph.specs.declared.nodes.NodeKind.{NodeKind}
use Rattle.cip_digraph.specs.declared.nodes.NodeKind.TheVariants.{Real, Closure, Multiple, Delocalised}
use Rattle.cip_digraph.specs.declared.nodes.NodeData.{NodeData}
use Rattle.cip_digraph.specs.digraph.Digraph.{Node, is_real}
use Rattle.cip_digraph.specs.rules.Keys.{counterpart}
use Rattle.cip_tree.specs.Branches.{Branch, children, height}

-- a node with the number of its parent, which is 0 for the root
pub record Placed : Type 0 where
  pub parent : ℕ
  pub branch : Branch

abbrev pub hung : ℕ → List Branch → List Placed
hung number branches = map (λ branch. record { parent = number; branch = branch }) branches

-- the children of nodes of which the first has this number
abbrev pub next_sphere : ℕ → List Placed → List Placed
next_sphere number [] = []
next_sphere number (node ∷ nodes) = hung number (children node.branch) ++ next_sphere (number + 1) nodes

-- the nodes before a sphere, and those of the sphere
pub record Spheres : Type 0 where
  pub before : List Placed
  pub last : List Placed

abbrev pub spheres : Branch → ℕ → Spheres
spheres tree zero = record { before = []; last = record { parent = 0; branch = tree } ∷ [] }
spheres tree (suc sphere) =
    let up = spheres tree sphere in
    record { before = up.before ++ up.last; last = next_sphere (length up.before) up.last }

abbrev pub placed_to : Branch → ℕ → List Placed
placed_to tree sphere = (spheres tree sphere).before ++ (spheres tree sphere).last

abbrev pub placed : Branch → List Placed
placed tree = placed_to tree (height tree)

abbrev pub is_at : List ℕ → Node → Bool
is_at path node = is_real node.kind && pointwise nat_eq node.path path

-- the number of the real node of a path
abbrev pub number_of : List Placed → List ℕ → Option ℕ
number_of all path = position (λ node. is_at path node.branch.label.node) all

abbrev pub counterpart_in : List Placed → Node → Option ℕ
counterpart_in all node = by_kind node.kind
  where
    by_kind : NodeKind → Option ℕ
    by_kind Real = None
    by_kind Closure = number_of all (counterpart node)
    by_kind Multiple = number_of all (counterpart node)
    by_kind Delocalised = None

abbrev pub told_in : List Placed → Placed → NodeData
told_in all node =
    let label = node.branch.label in
    record {
      parent = node.parent;
      kind = label.node.kind;
      vertex = label.node.vertex;
      counterpart = counterpart_in all label.node;
      atomic = label.atomic;
      mass = label.mass;
      as_printed = label.as_printed;
      as_corrected = label.as_corrected;
    }

abbrev pub flat_of : Branch → List NodeData
flat_of tree = map (told_in (placed tree)) (placed tree)
