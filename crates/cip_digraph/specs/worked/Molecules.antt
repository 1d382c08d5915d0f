-- Molecules on which the definitions are tried, with what their drawings show of their units. Own.
use Rattle.std.specs.Prelude.{ℕ, ℤ, pos, negsuc, [], ◌∷◌}
use Rattle.cip_mol.specs.Drawing.{Drawing}
use Rattle.cip_mol.specs.declared.labels.descriptor.Sense.TheVariants.{Plus, Minus}
use Rattle.cip_mol.specs.declared.graph.molecule.Atom.{Atom}
use Rattle.cip_mol.specs.declared.graph.molecule.Bond.{Bond}
use Rattle.cip_mol.specs.declared.graph.molecule.Mark.TheVariants.{Plain}
use Rattle.cip_mol.specs.declared.site.Cause.TheVariants.{NoMark}
use Rattle.cip_mol.specs.declared.site.Geometry.{Geometry}
use Rattle.cip_mol.specs.declared.site.Geometry.TheVariants.{Known, Unknown}

abbrev pub any_atom : ℕ → ℕ → ℤ → Atom
any_atom z isotope charge = record {
  z = z;
  isotope = isotope;
  charge = charge;
  radical = 0;
  valence_mark = 0;
  at = record { x = pos 0; y = pos 0; z = pos 0 };
}

abbrev pub carbon : Atom
carbon = any_atom 6 0 (pos 0)

abbrev pub nitrogen : Atom
nitrogen = any_atom 7 0 (pos 0)

abbrev pub oxygen : Atom
oxygen = any_atom 8 0 (pos 0)

abbrev pub fluorine : Atom
fluorine = any_atom 9 0 (pos 0)

abbrev pub sulfur : Atom
sulfur = any_atom 16 0 (pos 0)

abbrev pub chlorine : Atom
chlorine = any_atom 17 0 (pos 0)

abbrev pub bromine : Atom
bromine = any_atom 35 0 (pos 0)

abbrev pub bond : ℕ → ℕ → ℕ → Bond
bond order a b = record { a = a; b = b; order = order; mark = Plain }

abbrev pub single : ℕ → ℕ → Bond
single = bond 1

abbrev pub double : ℕ → ℕ → Bond
double = bond 2

abbrev pub plus : Geometry
plus = Known Plus

abbrev pub minus : Geometry
minus = Known Minus

abbrev pub unmarked : Geometry
unmarked = Unknown NoMark

-- 0 the centre, 1 and 2 the aldehyde group, 3 the hydroxyl group, 4 and 5 the hydroxymethyl group
abbrev pub glyceraldehyde : Drawing
glyceraldehyde = record {
  atoms = carbon ∷ carbon ∷ oxygen ∷ oxygen ∷ carbon ∷ oxygen ∷ [];
  bonds = single 0 1 ∷ double 1 2 ∷ single 0 3 ∷ single 0 4 ∷ single 4 5 ∷ [];
}

-- 0 to 2 the ring, 3 the methyl group
abbrev pub methylcyclopropane : Drawing
methylcyclopropane = record {
  atoms = carbon ∷ carbon ∷ carbon ∷ carbon ∷ [];
  bonds = single 0 1 ∷ single 1 2 ∷ single 0 2 ∷ single 0 3 ∷ [];
}

-- chloromethane of which one hydrogen is tritium and one deuterium
abbrev pub isotopic_chloromethane : Drawing
isotopic_chloromethane = record {
  atoms = carbon ∷ chlorine ∷ any_atom 1 3 (pos 0) ∷ any_atom 1 2 (pos 0) ∷ any_atom 1 0 (pos 0) ∷ [];
  bonds = single 0 1 ∷ single 0 2 ∷ single 0 3 ∷ single 0 4 ∷ [];
}

-- 0 the carbinol, 2 to 7 the pyridine ring with its nitrogen at 4, 8 to 13 the phenyl ring
abbrev pub phenyl_pyridinyl_methanol : Drawing
phenyl_pyridinyl_methanol = record {
  atoms = carbon ∷ oxygen ∷ carbon ∷ carbon ∷ nitrogen ∷ carbon ∷ carbon ∷ carbon ∷ carbon ∷ carbon ∷ carbon ∷ carbon ∷
      carbon ∷ carbon ∷ [];
  bonds = single 0 1 ∷ single 0 2 ∷ single 0 8 ∷ double 2 3 ∷ single 3 4 ∷ double 4 5 ∷ single 5 6 ∷ double 6 7 ∷
      single 2 7 ∷ double 8 9
      ∷ single 9 10 ∷ double 10 11 ∷ single 11 12 ∷ double 12 13 ∷ single 8 13 ∷ [];
}

-- 0 to 2 the ring with its oxygen at 1, 3 the charged oxygen, 4 and 5 the aldehyde group
abbrev pub oxirane_carbaldehyde_anion : Drawing
oxirane_carbaldehyde_anion = record {
  atoms = carbon ∷ oxygen ∷ carbon ∷ any_atom 8 0 (negsuc 0) ∷ carbon ∷ oxygen ∷ [];
  bonds = single 0 1 ∷ single 0 2 ∷ single 1 2 ∷ single 2 3 ∷ single 0 4 ∷ double 4 5 ∷ [];
}

-- 0 the carbinol, 2 to 4 the one chain and 5 to 7 the other
abbrev pub heptadienol : Drawing
heptadienol = record {
  atoms = carbon ∷ oxygen ∷ carbon ∷ carbon ∷ carbon ∷ carbon ∷ carbon ∷ carbon ∷ [];
  bonds = single 0 1 ∷ single 0 2 ∷ double 2 3 ∷ single 3 4 ∷ single 0 5 ∷ double 5 6 ∷ single 6 7 ∷ [];
}

-- 0 the carbinol, 2, 4 and 6 the one chain and 7, 9 and 11 the other
abbrev pub tetrachloroheptanol : Drawing
tetrachloroheptanol = record {
  atoms = carbon ∷ oxygen ∷ carbon ∷ chlorine ∷ carbon ∷ chlorine ∷ carbon ∷ carbon ∷ chlorine ∷ carbon ∷ chlorine ∷
      carbon ∷ [];
  bonds = single 0 1 ∷ single 0 2 ∷ single 2 3 ∷ single 2 4 ∷ single 4 5 ∷ single 4 6 ∷ single 0 7 ∷ single 7 8 ∷
      single 7 9 ∷ single 9 10
      ∷ single 9 11 ∷ [];
}

-- 0 to 4 the chain with hydroxyl groups 5 to 7 at 1 to 3
abbrev pub trihydroxyglutaric_acid : Drawing
trihydroxyglutaric_acid = record {
  atoms = carbon ∷ carbon ∷ carbon ∷ carbon ∷ carbon ∷ oxygen ∷ oxygen ∷ oxygen ∷ oxygen ∷ oxygen ∷ oxygen ∷
      oxygen ∷ [];
  bonds = single 0 1 ∷ single 1 2 ∷ single 2 3 ∷ single 3 4 ∷ single 1 5 ∷ single 2 6 ∷ single 3 7 ∷ double 0 8 ∷
      single 0 9 ∷ double 4 10
      ∷ single 4 11 ∷ [];
}

-- 0 with two groups CHBrF, 1 and 2, and two groups CHClF, 3 and 4
abbrev pub two_pairs : Drawing
two_pairs = record {
  atoms = carbon ∷ carbon ∷ carbon ∷ carbon ∷ carbon ∷ bromine ∷ fluorine ∷ bromine ∷ fluorine ∷ chlorine ∷ fluorine ∷
      chlorine ∷ fluorine ∷ [];
  bonds = single 0 1 ∷ single 0 2 ∷ single 0 3 ∷ single 0 4 ∷ single 1 5 ∷ single 1 6 ∷ single 2 7 ∷ single 2 8 ∷
      single 3 9 ∷ single 3 10
      ∷ single 4 11 ∷ single 4 12 ∷ [];
}

-- 1,5-dichloro-2,4-bis(chlorofluoromethyl)-1,3,5-trifluoropentane: 0 with fluorine and two branches, 2 and 9; at 2 the groups CHClF of
-- 3 and 6, at 9 those of 10 and 13
abbrev pub branched_pentane : Drawing
branched_pentane = record {
  atoms = carbon ∷ fluorine ∷ carbon ∷ carbon ∷ fluorine ∷ chlorine ∷ carbon ∷ fluorine ∷ chlorine
      ∷ carbon ∷ carbon ∷ fluorine ∷ chlorine ∷ carbon ∷ fluorine ∷ chlorine ∷ [];
  bonds = single 0 1 ∷ single 0 2 ∷ single 0 9 ∷ single 2 3 ∷ single 2 6 ∷ single 3 4 ∷ single 3 5 ∷ single 6 7 ∷ single 6 8
      ∷ single 9 10 ∷ single 9 13 ∷ single 10 11 ∷ single 10 12 ∷ single 13 14 ∷ single 13 15 ∷ [];
}

-- 1 and 5 the oxygens, 2 the methyl and 3 the ethyl group
abbrev pub ethyl_methyl_sulfone : Drawing
ethyl_methyl_sulfone = record {
  atoms = sulfur ∷ oxygen ∷ carbon ∷ carbon ∷ carbon ∷ oxygen ∷ [];
  bonds = double 0 1 ∷ single 0 2 ∷ single 0 3 ∷ single 3 4 ∷ double 0 5 ∷ [];
}

abbrev pub ethyl_methyl_sulfoxide : Drawing
ethyl_methyl_sulfoxide = record {
  atoms = sulfur ∷ oxygen ∷ carbon ∷ carbon ∷ carbon ∷ [];
  bonds = double 0 1 ∷ single 0 2 ∷ single 0 3 ∷ single 3 4 ∷ [];
}

abbrev pub tetrahedrane : Drawing
tetrahedrane = record {
  atoms = carbon ∷ carbon ∷ carbon ∷ carbon ∷ [];
  bonds = single 0 1 ∷ single 0 2 ∷ single 0 3 ∷ single 1 2 ∷ single 1 3 ∷ single 2 3 ∷ [];
}

abbrev pub dichloropropadiene : Drawing
dichloropropadiene = record {
  atoms = carbon ∷ carbon ∷ carbon ∷ chlorine ∷ chlorine ∷ [];
  bonds = double 0 1 ∷ double 1 2 ∷ single 0 3 ∷ single 2 4 ∷ [];
}

abbrev pub cyclohexene : Drawing
cyclohexene = record {
  atoms = carbon ∷ carbon ∷ carbon ∷ carbon ∷ carbon ∷ carbon ∷ [];
  bonds = double 0 1 ∷ single 1 2 ∷ single 2 3 ∷ single 3 4 ∷ single 4 5 ∷ single 0 5 ∷ [];
}

abbrev pub cyclooctene : Drawing
cyclooctene = record {
  atoms = carbon ∷ carbon ∷ carbon ∷ carbon ∷ carbon ∷ carbon ∷ carbon ∷ carbon ∷ [];
  bonds = double 0 1 ∷ single 1 2 ∷ single 2 3 ∷ single 3 4 ∷ single 4 5 ∷ single 5 6 ∷ single 6 7 ∷ single 0 7 ∷ [];
}

-- a nitrogen of some charge with a methyl, an ethyl and a propyl group
abbrev pub ethyl_methyl_propyl_amine : ℤ → Drawing
ethyl_methyl_propyl_amine charge = record {
  atoms = any_atom 7 0 charge ∷ carbon ∷ carbon ∷ carbon ∷ carbon ∷ carbon ∷ carbon ∷ [];
  bonds = single 0 1 ∷ single 0 2 ∷ single 2 3 ∷ single 0 4 ∷ single 4 5 ∷ single 5 6 ∷ [];
}
