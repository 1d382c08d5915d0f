-- Worked records, on which the grammar is tried: L-alanine, of which one atom is on a continued line, with a line
-- changed; and bromochlorofluoromethane with indices in no order. Own.
use Rattle.std.specs.Prelude.{◌≡◌, ℕ, ℤ, pos, negsuc, List, [], ◌∷◌, ◌++◌, ◌-◌, codes, slice_set, take, Result, Ok, Err}
use Rattle.cip_mol.specs.Drawing.{Drawing}
use Rattle.cip_mol.specs.declared.graph.molecule.Atom.{Atom}
use Rattle.cip_mol.specs.declared.graph.molecule.Bond.{Bond}
use Rattle.cip_mol.specs.declared.graph.molecule.Mark.{Mark}
use Rattle.cip_mol.specs.declared.graph.molecule.Mark.TheVariants.{Plain, Up}
use Rattle.cip_mol.specs.declared.labels.refusal.ReadCause.{ReadCause}
use Rattle.cip_mol.specs.declared.labels.refusal.ReadCause.TheVariants.{Short, Counts, Frame, Index, Coordinate, KeyValue}
use Rattle.cip_mol.specs.declared.labels.refusal.ReadFault.{ReadFault}
use Rattle.cip_v3000.specs.Grammar.{molecule_of}

abbrev pub header : List ℕ → List (List ℕ)
header name = name ∷ [] ∷ [] ∷ codes "  0  0  0     0  0            999 V3000" ∷ []

-- its lines up to the end of the atoms
abbrev pub alanine_atoms : List (List ℕ)
alanine_atoms =
    codes "M  V30 BEGIN CTAB"
    ∷ codes "M  V30 COUNTS 7 6 0 0 0"
    ∷ codes "M  V30 BEGIN ATOM"
    ∷ codes "M  V30 1 C 0.000000 0.000000 0.000000 0"
    ∷ codes "M  V30 2 N 1.000000 1.000000 1.000000 0"
    ∷ codes "M  V30 3 C 1.000000 -1.000000 -1.000000 0"
    ∷ codes "M  V30 4 C -1.000000 1.000000 -1.000000 0"
    ∷ codes "M  V30 5 H -1.000000 -1.000000 -"
    ∷ codes "M  V30 1.000000 0"
    ∷ codes "M  V30 6 O 2.000000 -1.000000 -2.000000 0"
    ∷ codes "M  V30 7 O 1.000000 -2.000000 -2.000000 0"
    ∷ codes "M  V30 END ATOM" ∷ []

abbrev pub alanine_bonds : List (List ℕ)
alanine_bonds =
    codes "M  V30 BEGIN BOND"
    ∷ codes "M  V30 1 1 1 2"
    ∷ codes "M  V30 2 1 1 3"
    ∷ codes "M  V30 3 1 1 4"
    ∷ codes "M  V30 4 1 1 5"
    ∷ codes "M  V30 5 2 3 6"
    ∷ codes "M  V30 6 1 3 7"
    ∷ codes "M  V30 END BOND"
    ∷ codes "M  V30 END CTAB"
    ∷ codes "M  END" ∷ []

abbrev pub alanine : List (List ℕ)
alanine = header (codes "L-alanine") ++ (alanine_atoms ++ alanine_bonds)

abbrev pub atom : ℕ → ℤ → ℤ → ℤ → Atom
atom z x y depth = record {
  z = z;
  isotope = 0;
  charge = pos 0;
  radical = 0;
  valence_mark = 0;
  at = record { x = x; y = y; z = depth };
}

abbrev pub bond : ℕ → ℕ → ℕ → Mark → Bond
bond order a b mark = record { a = a; b = b; order = order; mark = mark }

-- one ångström, in ten-thousandths
abbrev pub one : ℤ
one = pos 10000

abbrev pub minus_one : ℤ
minus_one = negsuc 9999

abbrev pub minus_two : ℤ
minus_two = negsuc 19999

abbrev pub drawn_alanine : Drawing
drawn_alanine = record {
  atoms =
      atom 6 (pos 0) (pos 0) (pos 0) ∷ atom 7 one one one ∷ atom 6 one minus_one minus_one
      ∷ atom 6 minus_one one minus_one
      ∷ atom 1 minus_one minus_one one ∷ atom 8 (pos 20000) minus_one minus_two ∷ atom 8 one minus_two minus_two ∷ [];
  bonds =
      bond 1 0 1 Plain ∷ bond 1 0 2 Plain ∷ bond 1 0 3 Plain ∷ bond 1 0 4 Plain ∷ bond 2 2 5 Plain
      ∷ bond 1 2 6 Plain ∷ [];
}

abbrev pub bromochlorofluoromethane : List (List ℕ)
bromochlorofluoromethane =
    header (codes "indices in no order")
    ++ codes "M  V30 BEGIN CTAB"
    ∷ codes "M  V30 COUNTS 5 4 0 0 0"
    ∷ codes "M  V30 BEGIN ATOM"
    ∷ codes "M  V30 5 C 0 0 0 0" ∷ codes "M  V30 3 F 0 1 0 0" ∷ codes "M  V30 9 Cl 1 0 0 0"
    ∷ codes "M  V30 1 Br 0 -1 0 0" ∷ codes "M  V30 7 H -1 0 0 0"
    ∷ codes "M  V30 END ATOM"
    ∷ codes "M  V30 BEGIN BOND"
    ∷ codes "M  V30 1 1 5 3" ∷ codes "M  V30 2 1 5 9" ∷ codes "M  V30 3 1 5 1 CFG=1" ∷ codes "M  V30 4 1 5 7"
    ∷ codes "M  V30 END BOND"
    ∷ codes "M  V30 END CTAB"
    ∷ codes "M  END" ∷ []

abbrev pub drawn_bromochlorofluoromethane : Drawing
drawn_bromochlorofluoromethane = record {
  atoms =
      atom 6 (pos 0) (pos 0) (pos 0) ∷ atom 9 (pos 0) one (pos 0) ∷ atom 17 one (pos 0) (pos 0)
      ∷ atom 35 (pos 0) minus_one (pos 0) ∷ atom 1 minus_one (pos 0) (pos 0) ∷ [];
  bonds = bond 1 0 1 Plain ∷ bond 1 0 2 Plain ∷ bond 1 0 3 Up ∷ bond 1 0 4 Plain ∷ [];
}

-- what L-alanine's record gives with another text in place of the line of this number
abbrev pub with_line : ℕ → List ℕ → Result Drawing ReadFault
with_line number text = molecule_of (slice_set alanine (number - 1) text)

abbrev pub refused : ℕ → ReadCause → Result Drawing ReadFault
refused number cause = Err (record { line = number; cause = cause })

pub record AreRead : Type 0 where
  pub whole : molecule_of alanine ≡ Ok drawn_alanine
  pub no_order : molecule_of bromochlorofluoromethane ≡ Ok drawn_bromochlorofluoromethane
  pub index : with_line 9 (codes "M  V30 1 N 1.000000 1.000000 1.000000 0") ≡ refused 9 Index
  pub key : with_line 9 (codes "M  V30 2 N 1.000000 1.000000 1.000000 0 CHG=x") ≡ refused 9 KeyValue
  pub end : with_line 16 (codes "M  V30 END BOND") ≡ refused 16 Frame
  pub counts : with_line 6 (codes "M  V30 COUNTS 16385 6 0 0 0") ≡ refused 6 Counts
  -- a cause in the second part of a line
  pub second_part : with_line 13 (codes "M  V30 x 0") ≡ refused 12 Coordinate
  -- the line that goes on is cut off, or goes on in one of another kind
  pub cut : molecule_of (take 12 alanine) ≡ refused 13 Short
  pub broken : with_line 13 (codes "1.000000 0") ≡ refused 13 Frame
  pub no_end : molecule_of (take 25 alanine) ≡ refused 26 Short
