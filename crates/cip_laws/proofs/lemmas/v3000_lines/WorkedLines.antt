-- The joined lines of worked records, and what is read of them.
use Rattle.std.proofs.Common.{◌≡◌, ℕ, List, [], ◌∷◌, ◌++◌, codes, Ok, refl, ap, ◌∙◌}
use Rattle.cip_text.specs.Numbers.{integer_of, decimal4_of}
use Rattle.cip_elem.specs.Symbols.{element_of}
use Rattle.cip_mol.specs.Bonds.{cause_of}
use Rattle.cip_mol.specs.declared.labels.refusal.ReadCause.TheVariants.{Frame}
use Rattle.cip_ctfile.specs.Fields.{parse_number, parse_signed}
use Rattle.cip_ctfile.specs.Reading.{through}
use Rattle.cip_v3000.specs.AtomLine.{new_index, atom_by, atom_of}
use Rattle.cip_v3000.specs.BondLine.{with_mark, place_named, bond_by, bond_of}
use Rattle.cip_v3000.specs.CountsLine.{count_at, counts_of}
use Rattle.cip_v3000.specs.Frames.{is_frame}
use Rattle.cip_v3000.specs.Grammar.{read_at, molecule_in, molecule_of}
use Rattle.cip_v3000.specs.JoinedLines.{LogicalLine, JoinedLines, joined_from, logical_lines}
use Rattle.cip_v3000.specs.Joining.{with_before}
use Rattle.cip_ctfile.specs.Turns.{over}
use Rattle.cip_v3000.specs.Keys.{with_key}
use Rattle.cip_v3000.specs.Words.{words_of, keyed}
use Rattle.cip_v3000.specs.Worked.{alanine_atoms, alanine_bonds, alanine, drawn_alanine}

-- one equation for the lines of the atoms, whatever follows, and one for those of the bonds: the check computes each
-- alone

abbrev joined_atoms : List LogicalLine
joined_atoms =
    record { parts = codes "M  V30 BEGIN CTAB" ∷ []; number = 5 }
    ∷ record { parts = codes "M  V30 COUNTS 7 6 0 0 0" ∷ []; number = 6 }
    ∷ record { parts = codes "M  V30 BEGIN ATOM" ∷ []; number = 7 }
    ∷ record { parts = codes "M  V30 1 C 0.000000 0.000000 0.000000 0" ∷ []; number = 8 }
    ∷ record { parts = codes "M  V30 2 N 1.000000 1.000000 1.000000 0" ∷ []; number = 9 }
    ∷ record { parts = codes "M  V30 3 C 1.000000 -1.000000 -1.000000 0" ∷ []; number = 10 }
    ∷ record { parts = codes "M  V30 4 C -1.000000 1.000000 -1.000000 0" ∷ []; number = 11 }
    ∷ record { parts = codes "M  V30 5 H -1.000000 -1.000000 -" ∷ codes "M  V30 1.000000 0" ∷ []; number = 12 }
    ∷ record { parts = codes "M  V30 6 O 2.000000 -1.000000 -2.000000 0" ∷ []; number = 14 }
    ∷ record { parts = codes "M  V30 7 O 1.000000 -2.000000 -2.000000 0" ∷ []; number = 15 }
    ∷ record { parts = codes "M  V30 END ATOM" ∷ []; number = 16 }
    ∷ []

abbrev joined_bonds : List LogicalLine
joined_bonds =
    record { parts = codes "M  V30 BEGIN BOND" ∷ []; number = 17 }
    ∷ record { parts = codes "M  V30 1 1 1 2" ∷ []; number = 18 }
    ∷ record { parts = codes "M  V30 2 1 1 3" ∷ []; number = 19 }
    ∷ record { parts = codes "M  V30 3 1 1 4" ∷ []; number = 20 }
    ∷ record { parts = codes "M  V30 4 1 1 5" ∷ []; number = 21 }
    ∷ record { parts = codes "M  V30 5 2 3 6" ∷ []; number = 22 }
    ∷ record { parts = codes "M  V30 6 1 3 7" ∷ []; number = 23 }
    ∷ record { parts = codes "M  V30 END BOND" ∷ []; number = 24 }
    ∷ record { parts = codes "M  V30 END CTAB" ∷ []; number = 25 }
    ∷ []

abbrev joined_alanine : JoinedLines
joined_alanine = record { lines = joined_atoms ++ joined_bonds; past = record { line = 26; cause = Frame } }

atoms_joined : (rest : List (List ℕ)) → joined_from 27 5 [] (alanine_atoms ++ rest)
    ≡ with_before joined_atoms (joined_from 27 17 [] rest)
atoms_joined rest = refl

bonds_joined : joined_from 27 17 [] alanine_bonds
    ≡ record { lines = joined_bonds; past = record { line = 26; cause = Frame } }
bonds_joined = refl

alanine_joined : logical_lines alanine ≡ joined_alanine
unfolding logical_lines
alanine_joined = atoms_joined alanine_bonds ∙ ap (with_before joined_atoms) bonds_joined

alanine_in : molecule_in alanine joined_alanine ≡ Ok drawn_alanine
unfolding read_at through is_frame counts_of count_at atom_of atom_by bond_of bond_by new_index place_named with_mark with_key over words_of keyed parse_number parse_signed integer_of decimal4_of element_of cause_of
alanine_in = refl

pub alanine_read : molecule_of alanine ≡ Ok drawn_alanine
unfolding molecule_of
alanine_read = ap (molecule_in alanine) alanine_joined ∙ alanine_in
