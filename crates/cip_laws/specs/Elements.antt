-- The symbols of the elements and their masses. IUPAC, the periodic table; masses own.
use Rattle.std.specs.Prelude.{◌≡◌, ℕ, List, [], ◌∷◌, ◌++◌, codes}
use Rattle.std.specs.List.{flat_map}
use Rattle.cip_elem.specs.declared.masses.Masses.{Masses}
use Rattle.cip_elem.specs.declared.masses.TheConstants.{MASSES}
use Rattle.cip_elem.specs.declared.symbols.TheConstants.{SYMBOLS}

-- all symbols in order, a space after each
abbrev symbols : List ℕ
symbols = flat_map (λ symbol. symbol.now ++ codes " ") SYMBOLS

-- an element, its natural mass in half units, and the mass number that mass differences are added to
abbrev masses : ℕ → ℕ → ℕ → Masses
masses z natural_half reference = record { z = z; natural_half = natural_half; reference = reference }

pub record ElementsAreWritten : Type 0 where
  pub in_order : symbols
      ≡ codes "H He Li Be B C N O F Ne Na Mg Al Si P S Cl Ar K Ca Sc Ti V Cr Mn Fe Co Ni Cu Zn Ga Ge As Se Br Kr "
      ++ (codes "Rb Sr Y Zr Nb Mo Tc Ru Rh Pd Ag Cd In Sn Sb Te I Xe Cs Ba La Ce Pr Nd Pm Sm Eu Gd Tb Dy Ho Er Tm Yb "
      ++ (codes "Lu Hf Ta W Re Os Ir Pt Au Hg Tl Pb Bi Po At Rn Fr Ra Ac Th Pa U Np Pu Am Cm Bk Cf Es Fm Md No Lr "
      ++ codes "Rf Db Sg Bh Hs Mt Ds Rg Cn Nh Fl Mc Lv Ts Og "))
  pub weights : MASSES
      ≡ masses 1 3 1 ∷ masses 3 13 7 ∷ masses 5 21 11 ∷ masses 6 25 12 ∷ masses 7 29 14 ∷ masses 8 33 16
      ∷ masses 9 38 19 ∷ masses 14 57 28 ∷ masses 15 62 31 ∷ masses 16 65 32 ∷ masses 17 71 35 ∷ masses 34 159 79
      ∷ masses 35 159 80 ∷ masses 53 254 127 ∷ []
