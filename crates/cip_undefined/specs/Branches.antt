-- What a branch holds: the atoms to which bonds lead from its ligand without passing the end of the ligand.
-- Own; they are those for which the nodes of the branch are in a hierarchical digraph, IUPAC 2013, P-92.1.4.
use Rattle.std.specs.Prelude.{ℕ, ◌==◌, ◌&&◌, ◌||◌, Bool, not, List, [], ◌∷◌, filter, length, map, flat_map}
use Rattle.std.specs.List.{list_any}
use Rattle.cip_mol.specs.declared.site.Ligand.{Ligand}
use Rattle.cip_mol.specs.declared.site.Ligand.TheVariants.{Vertex, LonePair}
use Rattle.cip_mol.specs.declared.site.Site.{Site}
use Rattle.cip_digraph.specs.declared.drawing.graph.Edge.{Edge}
use Rattle.cip_digraph.specs.graph.Graph.{Graph, edges_at, other_end}
use Rattle.cip_digraph.specs.rings.Alternating.{is_in}
use Rattle.cip_digraph.specs.rings.SmallRings.{with_new}
use Rattle.cip_digraph.specs.units.Ends.{ends_of}
use Rattle.cip_ring.specs.Neighbours.{within}
use Rattle.cip_undefined.specs.declared.pairs.Pair.{Pair}

-- some atoms of a graph
pub record FreeAtoms : Type 0 where
  pub graph : Graph
  pub free : List ℕ

-- along some edges at a vertex, not to the root
abbrev pub beyond_along : ℕ → ℕ → List Edge → List ℕ
beyond_along root vertex edges = filter (λ other. not (other == root)) (map (other_end vertex) edges)

-- one bond further from a vertex, not to the root
abbrev pub beyond : Graph → ℕ → ℕ → List ℕ
beyond graph root vertex = beyond_along root vertex (edges_at graph vertex)

-- a way that meets no vertex twice has fewer steps than there are vertices
abbrev pub held : Graph → ℕ → Ligand → List ℕ
held graph root (Vertex vertex) = within (beyond graph root) vertex (length graph.vertices)
held graph root LonePair = []

-- the atoms at which a site ends
abbrev pub ends_at : Site → List ℕ
ends_at site = map (λ end. end.at) (ends_of site)

-- the atoms at which some sites end, each once
abbrev pub free_atoms : List ℕ → List Site → List ℕ
free_atoms others sites = with_new (with_new [] others) (flat_map ends_at sites)

-- it is among some atoms, and no end of a site itself
abbrev pub is_free : List ℕ → Site → ℕ → Bool
is_free free site vertex = is_in vertex free && not (is_in vertex (ends_at site))

abbrev pub holds : Graph → List ℕ → Site → ℕ → Ligand → Bool
holds graph free site root ligand = list_any (is_free free site) (held graph root ligand)

-- one of two branches at an end of a site holds one of some atoms, which is no end of the site itself
abbrev pub do_hold : Graph → List ℕ → Site → Pair → Bool
do_hold graph free site two =
    holds graph free site two.at two.one || holds graph free site two.at two.other
