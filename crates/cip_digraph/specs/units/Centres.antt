-- Centres: the atoms that can be chirality centres, and their ligands. IUPAC 2013, P-93.2; the list of elements
-- and the wish for three drawn neighbours are own.
use Rattle.std.specs.Prelude.{ℕ, ℤ, pos, Bool, ◌==◌, ◌&&◌, ◌||◌, List, [], ◌∷◌, ◌++◌, map, filter, length, is_some, int_lt, nat_le, nat_lt, if◌then◌else◌}
use Rattle.cip_elem.specs.Electrons.{outer_of}
use Rattle.cip_mol.specs.declared.site.Ligand.{Ligand}
use Rattle.cip_mol.specs.declared.site.Ligand.TheVariants.{LonePair}
use Rattle.cip_mol.specs.declared.site.Ligand.TheVariants as ligands
use Rattle.cip_digraph.specs.graph.Graph.{Graph, vertex_at, neighbours}

-- with four bonds: carbon, silicon or germanium, a nitrogen cation, a boron anion, phosphorus, arsenic, sulfur or
-- selenium
abbrev pub is_quadriligant : ℕ → ℤ → Bool
is_quadriligant z charge =
    (z == 6) || (z == 14) || (z == 32) || ((z == 7) && int_lt (pos 0) charge) || ((z == 5) && int_lt charge (pos 0))
    || is_some (outer_of z)

-- by element, charge, number of bonds with those to hydrogens, drawn neighbours and lone pair
abbrev pub is_centre_by : ℕ → ℤ → ℕ → ℕ → Bool → Bool
is_centre_by z charge edges drawn lone =
    nat_le 3 drawn && (((edges == 4) && is_quadriligant z charge) || ((edges == 3) && is_some (outer_of z) && lone))

abbrev pub drawn_neighbours : Graph → ℕ → List ℕ
drawn_neighbours graph vertex = filter (λ other. nat_lt other graph.drawn) (neighbours graph vertex)

abbrev pub is_centre : Graph → ℕ → Bool
is_centre graph vertex =
    let atom = vertex_at graph vertex in
    is_centre_by atom.z atom.charge (length (neighbours graph vertex))
    (length (drawn_neighbours graph vertex)) atom.lone

-- the neighbours of a centre, ascending, then its lone pair where it is the fourth ligand
abbrev pub centre_ligands : Graph → ℕ → List Ligand
centre_ligands graph vertex =
    let others = neighbours graph vertex in
    map ligands.Vertex others ++ (if length others == 3 then LonePair ∷ [] else [])
