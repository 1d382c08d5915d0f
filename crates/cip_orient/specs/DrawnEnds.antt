-- The drawn ligands of a centre, and of an end of a bond or axis. Own.
use Rattle.std.specs.Prelude.{◌<◌, ◌≤◌, ℕ, List, All, length, if◌then◌else◌}
use Rattle.cip_mol.specs.declared.site.Geometry.{Geometry}
use Rattle.cip_mol.specs.Drawing.{Drawing}
use Rattle.cip_mol.specs.Geometry.{axis_in_plane, axis_in_space}
use Rattle.cip_mol.specs.Points.{is_spatial}
use Rattle.cip_orient.specs.declared.drawn_ligands.DrawnEnd.{DrawnEnd}

-- one ligand at least is drawn, and all that is drawn are some of n atoms
pub record IsDrawn (atoms : ℕ) (end : DrawnEnd) : Type 0 where
  pub within : end.at < atoms
  pub some : 0 < length end.ligands
  pub each : All (λ number. number < atoms) end.ligands

-- of a centre three ligands at least are drawn
pub record IsDrawnCentre (atoms at : ℕ) (numbers : List ℕ) : Type 0 where
  pub within : at < atoms
  pub three : 3 ≤ length numbers
  pub each : All (λ number. number < atoms) numbers

-- what is shown of an axis by its drawn ligands, where no mark is undecided
abbrev pub of_drawn_axis : Drawing → DrawnEnd → DrawnEnd → Geometry
of_drawn_axis drawing nearer far =
    if is_spatial drawing.atoms then axis_in_space drawing.atoms nearer.at far.at nearer.ligands far.ligands
    else axis_in_plane drawing.atoms drawing.bonds nearer.at far.at nearer.ligands far.ligands
