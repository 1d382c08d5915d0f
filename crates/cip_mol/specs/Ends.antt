-- The ends of a unit as they are lent, and the site that they are of. Own.
use Rattle.std.specs.Prelude.{ℕ, List, [], ◌∷◌, option_to_list, unwrap_or}
use Rattle.cip_mol.specs.declared.ends.Ends.{Ends}
use Rattle.cip_mol.specs.declared.ends.Ends.TheVariants.{One, Two}
use Rattle.cip_mol.specs.declared.ends.Shape.TheVariants.{Flat, Crossed}
use Rattle.cip_mol.specs.declared.site.Site.{Site}
use Rattle.cip_mol.specs.declared.site.Site.TheVariants.{Centre, Bond, Axis}

-- nothing that is found of an axis rests on its middle: where none is known, the nearer end stands for it
abbrev pub as_site : Ends → Site
as_site (One end) = Centre end.at end.ligands.now
as_site (Two Flat two) = Bond two.nearer.at two.far.at two.nearer.ligands.now two.far.ligands.now
as_site (Two Crossed two) =
    Axis two.nearer.at (unwrap_or two.between two.nearer.at) two.far.at two.nearer.ligands.now two.far.ligands.now

-- the atoms between the ends, as they are lent
abbrev pub between_in : Ends → List ℕ
between_in (One end) = []
between_in (Two shape two) = option_to_list two.between

-- the atoms between the ends of a site
abbrev pub between_of : Site → List ℕ
between_of (Centre at ligands) = []
between_of (Bond a b first second) = []
between_of (Axis a middle b first second) = middle ∷ []
