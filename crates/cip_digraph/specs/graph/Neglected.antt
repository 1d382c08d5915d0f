-- Multiple bonds that are neglected: those of phosphorus, arsenic, sulfur and selenium with four ligands or more. Own,
-- after IUPAC 2013, P-92.1: contributions of d orbitals to bonds of quadriligant atoms are neglected.
use Rattle.std.specs.Prelude.{ℕ, Bool, ◌+◌, ◌&&◌, ◌||◌, not, is_some, nat_le, if◌then◌else◌}
use Rattle.cip_elem.specs.Electrons.{outer_of}
use Rattle.cip_mol.specs.Bonds.{degree}
use Rattle.cip_mol.specs.Drawing.{Drawing}
use Rattle.cip_mol.specs.declared.graph.molecule.Bond.{Bond}
use Rattle.cip_digraph.specs.graph.Hydrogens.{atom_at, hydrogens_of}
use Rattle.cip_digraph.specs.graph.LonePairs.{lone_pair_of}

-- an element by its number of bonds with those to hydrogens, and whether it has a lone pair, which is a ligand too
abbrev pub neglects : ℕ → ℕ → Bool → Bool
neglects z edges lone = is_some (outer_of z) && nat_le 4 (edges + (if lone then 1 else 0))

abbrev pub neglects_at : Drawing → ℕ → Bool
neglects_at drawing atom =
    neglects (atom_at drawing atom).z (degree atom drawing.bonds + hydrogens_of drawing atom)
    (lone_pair_of drawing atom)

-- whether a bond of a drawing is multiple and not neglected
abbrev pub is_counted : Drawing → Bond → Bool
is_counted drawing bond = nat_le 2 bond.order && not (neglects_at drawing bond.a || neglects_at drawing bond.b)
