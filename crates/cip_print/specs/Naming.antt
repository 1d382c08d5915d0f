-- How units are named. Own.
use Rattle.std.specs.Prelude.{ℕ, List, ◌++◌, ◌+◌, codes, decimal, min, max}
use Rattle.cip_mol.specs.declared.site.Site.{Site}
use Rattle.cip_mol.specs.declared.site.Site.TheVariants as sites
use Rattle.cip_print.specs.declared.unit_name.UnitName.{UnitName}
use Rattle.cip_print.specs.declared.unit_name.UnitName.TheVariants.{Centre, Bond, Axis, Cumulene, Biaryl}

-- an atom counted from 1
abbrev pub number : ℕ → List ℕ
number atom = decimal (atom + 1)

-- two atoms, the lower one first
abbrev pub pair : ℕ → ℕ → List ℕ
pair a b = number (min a b) ++ (codes "-" ++ number (max a b))

abbrev pub name_text : UnitName → List ℕ
name_text (Centre at) = codes "a" ++ number at
name_text (Bond a b) = codes "b" ++ pair a b
name_text (Axis a b) = codes "x" ++ pair a b
name_text (Cumulene a b) = codes "c" ++ pair a b
name_text (Biaryl a b) = codes "t" ++ pair a b

-- the name of the centre, bond or axis unit at a site
abbrev pub name_of : Site → UnitName
name_of (sites.Centre at ligands) = Centre at
name_of (sites.Bond a b first second) = Bond a b
name_of (sites.Axis a middle b first second) = Axis a b
