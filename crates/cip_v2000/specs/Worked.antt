-- Worked records, on which the grammar is tried: bromochlorofluoromethane with a line changed, a bond of a type that is
-- refused, an atom with too many bonds, and charges that property lines drop. Own.
use Rattle.std.specs.Prelude.{◌≡◌, ℕ, ℤ, pos, negsuc, List, [], ◌∷◌, ◌++◌, ◌-◌, false, codes, slice_set, take, replicate, map, Result, Ok, Err}
use Rattle.cip_mol.specs.Drawing.{Drawing}
use Rattle.cip_mol.specs.declared.graph.molecule.Atom.{Atom}
use Rattle.cip_mol.specs.declared.graph.molecule.Bond.{Bond}
use Rattle.cip_mol.specs.declared.graph.molecule.Mark.{Mark}
use Rattle.cip_mol.specs.declared.graph.molecule.Mark.TheVariants.{Plain, Up}
use Rattle.cip_mol.specs.declared.labels.refusal.ReadCause.{ReadCause}
use Rattle.cip_mol.specs.declared.labels.refusal.ReadCause.TheVariants.{Short, Version, Coordinate, Symbol, AtomField, BondEnd, BondType, BondMark, BondLoop, BondDoubled, Degree, Property}
use Rattle.cip_mol.specs.declared.labels.refusal.ReadFault.{ReadFault}
use Rattle.cip_v2000.specs.Grammar.{molecule_of}
use Rattle.cip_v2000.specs.Version.{is_v3000}

abbrev pub bromochlorofluoromethane : List (List ℕ)
bromochlorofluoromethane =
    codes "bromochlorofluoromethane" ∷ [] ∷ []
    ∷ codes "  5  4  0  0  0  0  0  0  0  0999 V2000"
    ∷ codes "    0.0000    0.0000    0.0000 C   0  0  0  0  0  0  0  0  0  0  0  0"
    ∷ codes "    0.0000    1.0000    0.0000 F   0  0  0  0  0  0  0  0  0  0  0  0"
    ∷ codes "    1.0000    0.0000    0.0000 Cl  0  0  0  0  0  0  0  0  0  0  0  0"
    ∷ codes "    0.0000   -1.0000    0.0000 Br  0  0  0  0  0  0  0  0  0  0  0  0"
    ∷ codes "   -1.0000    0.0000    0.0000 H   0  0  0  0  0  0  0  0  0  0  0  0"
    ∷ codes "  1  2  1  0" ∷ codes "  1  3  1  0" ∷ codes "  1  4  1  1" ∷ codes "  1  5  1  0"
    ∷ codes "M  END" ∷ []

abbrev pub atom : ℕ → ℤ → ℤ → Atom
atom z x y = record {
  z = z;
  isotope = 0;
  charge = pos 0;
  radical = 0;
  valence_mark = 0;
  at = record { x = x; y = y; z = pos 0 };
}

abbrev pub bond : ℕ → Mark → Bond
bond other mark = record { a = 0; b = other; order = 1; mark = mark }

abbrev pub drawn : Drawing
drawn = record {
  atoms =
      atom 6 (pos 0) (pos 0) ∷ atom 9 (pos 0) (pos 10000) ∷ atom 17 (pos 10000) (pos 0)
      ∷ atom 35 (pos 0) (negsuc 9999) ∷ atom 1 (negsuc 9999) (pos 0) ∷ [];
  bonds = bond 1 Plain ∷ bond 2 Plain ∷ bond 3 Up ∷ bond 4 Plain ∷ [];
}

-- what the record gives with another text in place of the line of this number
abbrev pub with_line : ℕ → List ℕ → Result Drawing ReadFault
with_line number text = molecule_of (slice_set bromochlorofluoromethane (number - 1) text)

abbrev pub refused : ℕ → ReadCause → Result Drawing ReadFault
refused number cause = Err (record { line = number; cause = cause })

pub record AreRefused : Type 0 where
  pub version : with_line 4 (codes "  5  4  0  0  0  0  0  0  0  0999 V4000") ≡ refused 4 Version
  pub symbol :
      with_line 6 (codes "    0.0000    1.0000    0.0000 Q   0  0  0  0  0  0  0  0  0  0  0  0") ≡ refused 6 Symbol
  pub coordinate :
      with_line 7 (codes "50000.0001    0.0000    0.0000 Cl  0  0  0  0  0  0  0  0  0  0  0  0") ≡ refused 7 Coordinate
  pub charge_code :
      with_line 7 (codes "    1.0000    0.0000    0.0000 Cl  0  8  0  0  0  0  0  0  0  0  0  0") ≡ refused 7 AtomField
  pub end : with_line 12 (codes "  1  6  1  1") ≡ refused 12 BondEnd
  pub loop : with_line 12 (codes "  1  1  1  1") ≡ refused 12 BondLoop
  pub doubled : with_line 12 (codes "  2  1  1  1") ≡ refused 12 BondDoubled
  pub mark : with_line 12 (codes "  1  4  1  3") ≡ refused 12 BondMark
  pub property : with_line 14 (codes "M  CHG  1   6   1") ≡ refused 14 Property
  pub no_end : molecule_of (take 13 bromochlorofluoromethane) ≡ refused 14 Short
  pub cut : molecule_of (take 9 bromochlorofluoromethane) ≡ refused 10 Short

-- two carbon atoms with a bond of type 4
abbrev pub aromatic_bond : List (List ℕ)
aromatic_bond =
    codes "aromatic bond" ∷ [] ∷ []
    ∷ codes "  2  1  0  0  0  0  0  0  0  0999 V2000"
    ∷ codes "    0.0000    0.0000    0.0000 C   0  0  0  0  0  0  0  0  0  0  0  0"
    ∷ codes "    1.0000    0.0000    0.0000 C   0  0  0  0  0  0  0  0  0  0  0  0"
    ∷ codes "  1  2  4  0"
    ∷ codes "M  END" ∷ []

-- nine bonds from one carbon atom to others
abbrev pub star : List (List ℕ)
star =
    codes "star" ∷ [] ∷ []
    ∷ codes " 10  9"
    ∷ (replicate 10 (codes "    0.0000    0.0000    0.0000 C")
    ++ codes "  1  2  1" ∷ codes "  1  3  1" ∷ codes "  1  4  1" ∷ codes "  1  5  1" ∷ codes "  1  6  1"
    ∷ codes "  1  7  1" ∷ codes "  1  8  1" ∷ codes "  1  9  1" ∷ codes "  1 10  1"
    ∷ codes "M  END" ∷ [])

-- three atoms, the first one N+ by its charge code, the second one O by its mass difference 18, the third one D
abbrev pub stating : List (List ℕ) → List (List ℕ)
stating properties =
    codes "statements" ∷ [] ∷ []
    ∷ codes "  3  0  0  0  0  0  0  0  0  0999 V2000"
    ∷ codes "    0.0000    0.0000    0.0000 N   0  3"
    ∷ codes "    0.0000    0.0000    0.0000 O   2  0"
    ∷ codes "    0.0000    0.0000    0.0000 D   0  4"
    ∷ (properties ++ codes "M  END" ∷ [])

-- the isotope and the charge of each atom
abbrev pub stated : Result Drawing ReadFault → List (ℕ × ℤ)
stated (Ok drawing) = map (λ a. (a.isotope, a.charge)) drawing.atoms
stated (Err fault) = []

abbrev pub States : List (List ℕ) → ℕ × ℤ → ℕ × ℤ → ℕ × ℤ → Type 0
States properties first second third = stated (molecule_of (stating properties)) ≡ first ∷ second ∷ third ∷ []

pub record AreRead : Type 0 where
  pub whole : molecule_of bromochlorofluoromethane ≡ Ok drawn
  pub refusals : AreRefused
  pub bond_type : molecule_of aromatic_bond ≡ refused 7 BondType
  pub degree : molecule_of star ≡ refused 23 Degree
  -- fields alone
  pub fields : States [] (0, pos 1) (18, pos 0) (2, pos 0)
  -- a line of charges or radicals drops all charges of fields
  pub charges : States (codes "M  CHG  1   2  -1" ∷ []) (0, pos 0) (18, negsuc 0) (2, pos 0)
  pub radicals : States (codes "M  RAD  1   2   1" ∷ []) (0, pos 0) (18, pos 0) (2, pos 0)
  -- a line of isotopes drops those of mass differences, and that of D where it names it
  pub isotopes : States (codes "M  ISO  1   1  15" ∷ []) (15, pos 1) (0, pos 0) (2, pos 0)
  pub deuterium : States (codes "M  ISO  1   3   0" ∷ []) (0, pos 1) (0, pos 0) (0, pos 0)
  -- a later pair replaces an earlier one
  pub later :
      States (codes "M  CHG  2   1   1   1   2" ∷ codes "M  CHG  1   1   3" ∷ []) (0, pos 3) (18, pos 0) (2, pos 0)
  pub versions : is_v3000 bromochlorofluoromethane ≡ false
