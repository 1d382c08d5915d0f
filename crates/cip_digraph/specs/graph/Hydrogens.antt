-- Implicit hydrogens: how many of them an atom of a drawing carries. Own, after the use of CTfile Formats, where a
-- valence mark states the valence and 15 stands for 0.
use Rattle.std.specs.Prelude.{ℕ, ◌+◌, ◌-◌, ◌==◌, if◌then◌else◌, List, [], ◌∷◌, map, filter, sum, nat_le, slice_index_or}
use Rattle.cip_elem.specs.Bonding.{valences_of}
use Rattle.cip_mol.specs.Bonds.{touches}
use Rattle.cip_mol.specs.Drawing.{Drawing}
use Rattle.cip_mol.specs.Points.{no_atom}
use Rattle.cip_mol.specs.declared.graph.molecule.Atom.{Atom}
use Rattle.cip_mol.specs.declared.graph.molecule.Bond.{Bond}

abbrev pub atom_at : Drawing → ℕ → Atom
atom_at drawing atom = slice_index_or drawing.atoms atom no_atom

-- the sum of the orders of the bonds at an atom
abbrev pub bond_orders : ℕ → List Bond → ℕ
bond_orders atom bonds = sum (map (λ bond. bond.order) (filter (touches atom) bonds))

-- the electrons of a radical that no bond takes, by its code: singlet, doublet and triplet
abbrev pub radical_electrons : ℕ → ℕ
radical_electrons code = if code == 1 then 2 else if code == 2 then 1 else if code == 3 then 2 else 0

-- what the least of some ascending valences leaves free, of those that take in as much as is used; nothing where none
-- does
abbrev pub free_valence : List ℕ → ℕ → ℕ
free_valence [] used = 0
free_valence (valence ∷ valences) used = if nat_le used valence then valence - used else free_valence valences used

-- the hydrogens of an atom whose bond orders have this sum
abbrev pub hydrogens : Atom → ℕ → ℕ
hydrogens atom orders =
    if atom.valence_mark == 0 then free_valence (valences_of atom.z atom.charge)
    (orders + radical_electrons atom.radical)
    else if atom.valence_mark == 15 then 0
    else atom.valence_mark - orders

abbrev pub hydrogens_of : Drawing → ℕ → ℕ
hydrogens_of drawing atom = hydrogens (atom_at drawing atom) (bond_orders atom drawing.bonds)
