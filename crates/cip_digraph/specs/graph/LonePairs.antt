-- Lone pairs that can be ligands: those of phosphorus, arsenic, sulfur and selenium. IUPAC 2013, P-93.2; how they are
-- found in a drawing is own.
use Rattle.std.specs.Prelude.{ℕ, ℤ, pos, negsuc, ◌==◌, Bool, false, None, Some, ◌+◌}
use Rattle.std.specs.declared.option.Option.{Option}
use Rattle.cip_elem.specs.Electrons.{outer_of}
use Rattle.cip_mol.specs.Drawing.{Drawing}
use Rattle.cip_mol.specs.declared.graph.molecule.Atom.{Atom}
use Rattle.cip_digraph.specs.graph.Hydrogens.{atom_at, bond_orders, radical_electrons, hydrogens_of}

-- two electrons are left of the outer ones, less the charge, when bonds, hydrogens and radical have theirs
abbrev pub leaves_pair : Option ℕ → ℤ → ℕ → Bool
leaves_pair None charge used = false
leaves_pair (Some outer) (pos charge) used = outer == charge + used + 2
leaves_pair (Some outer) (negsuc less) used = outer + (less + 1) == used + 2

-- of an atom, by the sum of its bond orders and its implicit hydrogens
abbrev pub lone_pair : Atom → ℕ → ℕ → Bool
lone_pair atom orders hydrogens =
    leaves_pair (outer_of atom.z) atom.charge (orders + hydrogens + radical_electrons atom.radical)

abbrev pub lone_pair_of : Drawing → ℕ → Bool
lone_pair_of drawing atom =
    lone_pair (atom_at drawing atom) (bond_orders atom drawing.bonds) (hydrogens_of drawing atom)
