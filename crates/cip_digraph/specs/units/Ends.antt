-- The roots of a unit: a centre has one, a bond or an axis one at each end, with the ligands that are ranked there.
-- IUPAC 2013, P-93.
use Rattle.std.specs.Prelude.{ℕ, List, [], ◌∷◌, ◌++◌, map}
use Rattle.cip_mol.specs.declared.site.Ligand.{Ligand}
use Rattle.cip_mol.specs.Ends.{between_of}
use Rattle.cip_mol.specs.declared.site.Site.{Site}
use Rattle.cip_mol.specs.declared.site.Site.TheVariants.{Centre, Bond, Axis}

pub record End : Type 0 where
  pub at : ℕ
  pub ligands : List Ligand

abbrev pub end_at : ℕ → List Ligand → End
end_at at ligands = record { at = at; ligands = ligands }

abbrev pub ends_of : Site → List End
ends_of (Centre at ligands) = end_at at ligands ∷ []
ends_of (Bond a b first second) = end_at a first ∷ end_at b second ∷ []
ends_of (Axis a middle b first second) = end_at a first ∷ end_at b second ∷ []

abbrev pub atoms_of : Site → List ℕ
atoms_of site = map (λ end. end.at) (ends_of site) ++ between_of site
