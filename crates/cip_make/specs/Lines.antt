-- Lines of V2000 records. CTfile Formats.
use Rattle.std.specs.Prelude.{ℕ, ℤ, pos, List, [], ◌∷◌, ◌++◌, codes, decimal}
use Rattle.cip_text.specs.Writing.{right, coordinate}
use Rattle.cip_make.specs.declared.chain.Element.{Element}
use Rattle.cip_make.specs.declared.chain.Element.TheVariants.{Carbon, Oxygen, Nitrogen, Chlorine, Bromine, Fluorine}
use Rattle.cip_make.specs.declared.chain.Stereo.{Stereo}
use Rattle.cip_make.specs.declared.chain.Stereo.TheVariants.{Plain, Up, Down}

abbrev pub number_field : ℕ → List ℕ
number_field number = right 3 (decimal number)

-- a space, and a symbol left in three columns
abbrev pub symbol : Element → List ℕ
symbol Carbon = codes " C  "
symbol Oxygen = codes " O  "
symbol Nitrogen = codes " N  "
symbol Chlorine = codes " Cl "
symbol Bromine = codes " Br "
symbol Fluorine = codes " F  "

abbrev pub stereo_number : Stereo → ℕ
stereo_number Plain = 0
stereo_number Up = 1
stereo_number Down = 6

unfoldable pub counts_line : ℕ → ℕ → List ℕ
counts_line atoms bonds = number_field atoms ++ number_field bonds ++ codes "  0  0  0  0  0  0  0  0999 V2000\n"

unfoldable pub atom_line : ℤ → ℤ → Element → List ℕ
atom_line x y element =
    right 10 (coordinate x) ++ right 10 (coordinate y) ++ right 10 (coordinate (pos 0))
    ++ symbol element ++ codes " 0  0  0  0  0  0  0  0  0  0  0  0\n"

unfoldable pub bond_line : ℕ → ℕ → Stereo → List ℕ
bond_line first second stereo =
    number_field first ++ number_field second ++ number_field 1 ++ number_field (stereo_number stereo) ++ 10 ∷ []
