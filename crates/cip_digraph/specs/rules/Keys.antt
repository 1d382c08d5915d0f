-- The keys by which nodes of a digraph compare. IUPAC 2013, P-92.2: atomic for Rule 1a, distance for Rule 1b, as
-- printed and as Hanson et al. 2018 correct it; P-92.3: mass for Rule 2. Distances of nodes that aren't duplicates and
-- of delocalised ones, and that duplicates have no mass, are own.
use Rattle.std.specs.Prelude.{ℕ, zero, suc, ℤ, pos, negsuc, ◌*◌, ◌-◌, ◌==◌, List, [], ◌∷◌, length, if◌then◌else◌}
use Rattle.cip_elem.specs.Masses.{natural_half_of}
use Rattle.cip_rank.specs.declared.rules.Rules.{Rules}
use Rattle.cip_rank.specs.declared.rules.Rules.TheVariants.{Wording2013, Wording2018}
use Rattle.cip_digraph.specs.rings.Alternating.{is_in}
use Rattle.cip_digraph.specs.declared.drawing.graph.Vertex.{Vertex}
use Rattle.cip_digraph.specs.graph.Graph.{Graph, vertex_at}
use Rattle.cip_digraph.specs.rings.Positions.{mean_key}
use Rattle.cip_digraph.specs.digraph.Digraph.{NodeKind, Real, Closure, Multiple, Delocalised, Node}

-- six times the atomic number, so that means are whole numbers
abbrev pub atomic_key : Graph → List (List ℕ) → Node → ℕ
atomic_key graph positions node = by_kind node.kind
  where
    by_kind : NodeKind → ℕ
    by_kind Real = 6 * (vertex_at graph node.vertex).z
    by_kind Closure = 6 * (vertex_at graph node.vertex).z
    by_kind Multiple = 6 * (vertex_at graph node.vertex).z
    by_kind Delocalised = mean_key graph positions node.vertex

-- in half units; duplicates have no mass
abbrev pub atom_mass : Vertex → ℕ
atom_mass vertex = if vertex.isotope == 0 then natural_half_of vertex.z else 2 * vertex.isotope

abbrev pub mass_key : Graph → Node → ℕ
mass_key graph node = by_kind node.kind
  where
    by_kind : NodeKind → ℕ
    by_kind Real = atom_mass (vertex_at graph node.vertex)
    by_kind Closure = 0
    by_kind Multiple = 0
    by_kind Delocalised = 0

-- the part of a path from a vertex on
abbrev pub path_from : ℕ → List ℕ → List ℕ
path_from vertex [] = []
path_from vertex (first ∷ path) = if first == vertex then first ∷ path else path_from vertex path

-- the path of the real node that stands for what a duplicate repeats: a node on the path, or a child
abbrev pub counterpart : Node → List ℕ
counterpart node =
    if is_in node.vertex node.path then path_from node.vertex node.path else node.vertex ∷ node.path

-- The sphere of a node, or of what it is a duplicate of. The wordings differ at the duplicate of a multiple bond: as
-- printed it has the sphere of its counterpart, as corrected that of the atom that carries it.
abbrev pub distance_key : Rules → (List ℕ → ℕ) → Node → ℕ
distance_key rules sphere_of node = by_kind rules node.kind
  where
    by_kind : Rules → NodeKind → ℕ
    by_kind Wording2013 Multiple = sphere_of (counterpart node)
    by_kind Wording2018 Multiple = sphere_of node.path
    by_kind wording Closure = sphere_of (counterpart node)
    by_kind wording Real = sphere_of node.path
    by_kind wording Delocalised = sphere_of node.path

-- the sphere of the real node of a path
abbrev pub sphere_in_digraph : List ℕ → ℕ
sphere_in_digraph path = length path - 1

-- a key of which the lower value precedes
abbrev pub lower_precedes : ℕ → ℤ
lower_precedes zero = pos zero
lower_precedes (suc below) = negsuc below
