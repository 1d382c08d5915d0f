-- The nodes of a digraph, each with the number of its parent, sphere after sphere.
use Rattle.std.proofs.Common.{◌≡◌, ◌+◌, ℕ, zero, suc, List, [], ◌∷◌, ◌++◌, map, length, replicate, refl, sym, ap, ◌∙◌}
use Rattle.std.specs.List.{flat_map}
use Rattle.std.proofs.lemmas.List.{map-append, length-map}
use Rattle.cip_digraph.specs.digraph.Digraph.{Node, real_node, children, sphere, digraph}
use Rattle.cip_digraph.specs.graph.Graph.{Graph}
use Rattle.cip_digraph.specs.digraph.Telling.{parents_below, first_of, parents_in}

pub record Placed : Type 0 where
  pub parent : ℕ
  pub node : Node

-- nodes below the node of a number
abbrev pub hung : ℕ → List Node → List Placed
hung number nodes = map (λ child. record { parent = number; node = child }) nodes

-- the children of nodes that are numbered from i on
abbrev pub next_sphere : Graph → List (List ℕ) → ℕ → List Placed → List Placed
next_sphere graph positions i [] = []
next_sphere graph positions i (n ∷ ns) = hung i (children graph positions n.node) ++ next_sphere graph positions (i + 1)
    ns

-- the nodes before a sphere, and those of the sphere
pub record Spheres : Type 0 where
  pub before : List Placed
  pub last : List Placed

abbrev pub spheres : Graph → List (List ℕ) → ℕ → ℕ → Spheres
spheres graph positions root zero = record { before = []; last = record { parent = 0; node = real_node root [] } ∷ [] }
spheres graph positions root (suc s) =
    let up = spheres graph positions root s in
    record { before = up.before ++ up.last; last = next_sphere graph positions (length up.before) up.last }

-- the nodes up to a sphere
abbrev pub placed : Graph → List (List ℕ) → ℕ → ℕ → List Placed
placed graph positions root s = let up = spheres graph positions root s in up.before ++ up.last

abbrev pub nodes_of : List Placed → List Node
nodes_of ps = map (λ (p : Placed). p.node) ps

abbrev pub parents : List Placed → List ℕ
parents ps = map (λ (p : Placed). p.parent) ps

module _ (graph : Graph) (positions : List (List ℕ)) where
  same_nodes : (i : ℕ) (cs : List Node) → nodes_of (hung i cs) ≡ cs
  same_nodes i [] = refl
  same_nodes i (c ∷ cs) = ap (λ xs. c ∷ xs) (same_nodes i cs)

  same_parents : (i : ℕ) (cs : List Node) → parents (hung i cs) ≡ replicate (length cs) i
  same_parents i [] = refl
  same_parents i (c ∷ cs) = ap (λ xs. i ∷ xs) (same_parents i cs)

  next_nodes : (i : ℕ) (ns : List Placed) → nodes_of (next_sphere graph positions i ns) ≡ flat_map
      (children graph positions) (nodes_of ns)
  next_nodes i [] = refl
  next_nodes i (n ∷ ns) =
      let kids = children graph positions n.node in
      rw (map-append (λ (p : Placed). p.node) (hung i kids) (next_sphere graph positions (i + 1) ns), same_nodes i kids)
      (ap (λ xs. kids ++ xs) (next_nodes (i + 1) ns))

  next_parents : (i : ℕ) (ns : List Placed) → parents (next_sphere graph positions i ns) ≡ parents_below graph positions
      i (nodes_of ns)
  next_parents i [] = refl
  next_parents i (n ∷ ns) =
      let kids = children graph positions n.node in
      let next = next_sphere graph positions (i + 1) ns in
      rw (map-append (λ (p : Placed). p.parent) (hung i kids) next, same_parents i kids)
      (ap (λ xs. replicate (length kids) i ++ xs) (next_parents (i + 1) ns))

  pub last_nodes : (root s : ℕ) → nodes_of (spheres graph positions root s).last ≡ sphere graph positions root s
  last_nodes root zero = refl
  last_nodes root (suc s) =
      next_nodes (length (spheres graph positions root s).before) (spheres graph positions root s).last
      ∙ ap (flat_map (children graph positions)) (last_nodes root s)

  -- they are the nodes of the digraph
  pub placed_nodes : (root s : ℕ) → nodes_of (placed graph positions root s) ≡ digraph graph positions root s
  placed_nodes root zero = refl
  placed_nodes root (suc s) =
      let up = spheres graph positions root s in
      let next = next_sphere graph positions (length up.before) up.last in
      rw (map-append (λ (p : Placed). p.node) (up.before ++ up.last) next, placed_nodes root s, last_nodes root (suc s))
      refl

  pub placed_length : (root s : ℕ) → length (placed graph positions root s) ≡ length (digraph graph positions root s)
  placed_length root s = sym (length-map (placed graph positions root s) (λ (p : Placed). p.node))
      ∙ ap (length {A = Node}) (placed_nodes root s)

  pub first_is : (root s : ℕ) → length (spheres graph positions root s).before ≡ first_of graph positions root s
  first_is root zero = refl
  first_is root (suc s) = placed_length root s

  -- and have its parents
  pub placed_parents : (root s : ℕ) → parents (placed graph positions root s) ≡ parents_in graph positions root s
  placed_parents root zero = refl
  placed_parents root (suc s) =
      let up = spheres graph positions root s in
      let next = next_sphere graph positions (length up.before) up.last in
      rw (
        map-append (λ (p : Placed). p.parent) (up.before ++ up.last) next,
        placed_parents root s,
        next_parents (length up.before) up.last,
        first_is root s,
        last_nodes root s,
      ) refl
