-- Molecules with what their drawings show, in ten-thousandths of an ångström. Own.
use Rattle.std.specs.Prelude.{ℤ, pos, negsuc, [], ◌∷◌}
use Rattle.cip_mol.specs.Drawing.{Drawing}
use Rattle.cip_mol.specs.declared.graph.molecule.Atom.{Atom}
use Rattle.cip_mol.specs.declared.graph.molecule.Bond.{Bond}
use Rattle.cip_mol.specs.declared.graph.molecule.Mark.{Mark}
use Rattle.cip_mol.specs.declared.graph.molecule.Mark.TheVariants.{Up, Down}
use Rattle.cip_digraph.specs.worked.Molecules.{any_atom, carbon, oxygen, fluorine, chlorine, bromine, single, double}

abbrev pub at : ℤ → ℤ → Atom → Atom
at x y atom = record atom { at = record { x = x; y = y; z = pos 0 } }

abbrev pub marked : Mark → Bond → Bond
marked mark bond = record bond { mark = mark }

-- 0 the carbon, 3 the bromine, whose bond comes out of the plane
abbrev pub bromochlorofluoromethane : Drawing
bromochlorofluoromethane = record {
  atoms = at (pos 0) (pos 0) carbon ∷ at (pos 0) (pos 10000) fluorine ∷ at (pos 10000) (pos 0) chlorine ∷
      at (pos 0) (negsuc 9999) bromine ∷ at (negsuc 9999) (pos 0) (any_atom 1 0 (pos 0)) ∷ [];
  bonds = single 0 1 ∷ single 0 2 ∷ marked Up (single 0 3) ∷ single 0 4 ∷ [];
}

-- 0 and 3 the methyl groups, on one side
abbrev pub but_2_ene : Drawing
but_2_ene = record {
  atoms = at (negsuc 9999) (pos 8660) carbon ∷ at (negsuc 4999) (pos 0) carbon ∷ at (pos 5000) (pos 0) carbon ∷
      at (pos 10000) (pos 8660) carbon ∷ [];
  bonds = single 0 1 ∷ double 1 2 ∷ single 2 3 ∷ [];
}

-- an allene: 3 and 4 the chlorines, the bond to 3 comes out of the plane
abbrev pub dichloropropadiene : Drawing
dichloropropadiene = record {
  atoms = at (negsuc 9999) (pos 0) carbon ∷ at (pos 0) (pos 0) carbon ∷ at (pos 10000) (pos 0) carbon ∷
      at (negsuc 14999) (pos 8660) chlorine ∷ at (pos 15000) (pos 8660) chlorine ∷ [];
  bonds = double 0 1 ∷ double 1 2 ∷ marked Up (single 0 3) ∷ single 2 4 ∷ [];
}

-- 0 the centre, 1 and 2 the aldehyde group, 3 the hydroxyl group, 4 and 5 the hydroxymethyl group
abbrev pub glyceraldehyde : Drawing
glyceraldehyde = record {
  atoms = at (pos 0) (pos 0) carbon ∷ at (pos 0) (pos 10000) carbon ∷ at (pos 8660) (pos 15000) oxygen ∷
      at (pos 8660) (negsuc 4999) oxygen ∷ at (negsuc 8659) (negsuc 4999) carbon ∷
      at (negsuc 17319) (pos 0) oxygen ∷ [];
  bonds = single 0 1 ∷ double 1 2 ∷ marked Up (single 0 3) ∷ single 0 4 ∷ single 4 5 ∷ [];
}

-- 0 to 4 the chain, 5 to 7 the hydroxyl groups, which all come out of the plane
abbrev pub trihydroxyglutaric_acid : Drawing
trihydroxyglutaric_acid = record {
  atoms = at (negsuc 17319) (pos 5000) carbon ∷ at (negsuc 8659) (pos 0) carbon ∷ at (pos 0) (pos 5000) carbon ∷
      at (pos 8660) (pos 0) carbon ∷ at (pos 17320) (pos 5000) carbon ∷
      at (negsuc 8659) (negsuc 9999) oxygen ∷ at (pos 0) (pos 15000) oxygen ∷
      at (pos 8660) (negsuc 9999) oxygen ∷ at (negsuc 17319) (pos 15000) oxygen ∷
      at (negsuc 25979) (pos 0) oxygen ∷ at (pos 17320) (pos 15000) oxygen ∷ at (pos 25980) (pos 0) oxygen ∷
      [];
  bonds = single 0 1 ∷ single 1 2 ∷ single 2 3 ∷ single 3 4 ∷ marked Up (single 1 5) ∷ marked Up (single 2 6) ∷
      marked Up (single 3 7) ∷ double 0 8 ∷ single 0 9 ∷ double 4 10 ∷ single 4 11 ∷ [];
}

-- 0 to 5 the ring, 6 the hydroxyl, 7 to 9 the isopropyl and 10 the methyl group
abbrev pub menthol : Drawing
menthol = record {
  atoms = at (pos 0) (pos 10000) carbon ∷ at (pos 8660) (pos 5000) carbon ∷ at (pos 8660) (negsuc 4999) carbon ∷
      at (pos 0) (negsuc 9999) carbon ∷ at (negsuc 8659) (negsuc 4999) carbon ∷
      at (negsuc 8659) (pos 5000) carbon ∷ at (pos 0) (pos 20000) oxygen ∷
      at (pos 17320) (pos 10000) carbon ∷ at (pos 17320) (pos 20000) carbon ∷
      at (pos 25980) (pos 5000) carbon ∷ at (negsuc 17319) (negsuc 9999) carbon ∷ [];
  bonds = single 0 1 ∷ single 1 2 ∷ single 2 3 ∷ single 3 4 ∷ single 4 5 ∷ single 0 5 ∷ marked Up (single 0 6) ∷
      marked Down (single 1 7) ∷ single 7 8 ∷ single 7 9 ∷ marked Up (single 4 10) ∷ [];
}
