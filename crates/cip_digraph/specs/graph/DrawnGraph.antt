-- The graph of a drawing: atoms first, then the implicit hydrogens in the order of the atoms that carry them. Own.
use Rattle.std.specs.Prelude.{ℕ, pos, false, ◌+◌, List, [], ◌∷◌, ◌++◌, map, length, replicate, flat_map}
use Rattle.std.specs.List.{range_with_len}
use Rattle.cip_mol.specs.Drawing.{Drawing}
use Rattle.cip_mol.specs.declared.graph.molecule.Bond.{Bond}
use Rattle.cip_digraph.specs.declared.drawing.graph.Edge.{Edge}
use Rattle.cip_digraph.specs.declared.drawing.graph.Vertex.{Vertex}
use Rattle.cip_digraph.specs.graph.Graph.{Graph}
use Rattle.cip_digraph.specs.graph.Hydrogens.{atom_at, hydrogens_of}
use Rattle.cip_digraph.specs.graph.LonePairs.{lone_pair_of}
use Rattle.cip_digraph.specs.graph.Neglected.{is_counted}

abbrev pub atom_vertex : Drawing → ℕ → Vertex
atom_vertex drawing number =
    let atom = atom_at drawing number in
    record { z = atom.z; isotope = atom.isotope; charge = atom.charge; lone = lone_pair_of drawing number }

abbrev pub hydrogen : Vertex
hydrogen = record { z = 1; isotope = 0; charge = pos 0; lone = false }

abbrev pub bond_edge : Drawing → Bond → Edge
bond_edge drawing bond = record { a = bond.a; b = bond.b; order = bond.order; counted = is_counted drawing bond }

-- the atoms that carry implicit hydrogens, ascending, each as often as it carries one
abbrev pub carriers : Drawing → List ℕ
carriers drawing =
    flat_map (λ atom. replicate (hydrogens_of drawing atom) atom) (range_with_len 0 (length drawing.atoms))

-- the edges of hydrogens that are numbered from a vertex on, by their carriers
abbrev pub hydrogen_edges : ℕ → List ℕ → List Edge
hydrogen_edges number [] = []
hydrogen_edges number (atom ∷ atoms) =
    record { a = atom; b = number; order = 1; counted = false } ∷ hydrogen_edges (number + 1) atoms

unfoldable pub graph_of : Drawing → Graph
graph_of drawing = record {
  vertices = map (atom_vertex drawing) (range_with_len 0 (length drawing.atoms))
      ++ map (λ _. hydrogen) (carriers drawing);
  edges = map (bond_edge drawing) drawing.bonds ++ hydrogen_edges (length drawing.atoms) (carriers drawing);
  drawn = length drawing.atoms;
}
