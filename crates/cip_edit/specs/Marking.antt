-- A mark that is set at a centre drawn in the plane. CTfile Formats, bond stereo; at which ligand it is set is own.
use Rattle.std.specs.Prelude.{◌≡◌, ℕ, List, [], ◌∷◌, map, length, Bool, true, false, cond, not, ◌&&◌, ◌==◌, nat_lt, None, Some}
use Rattle.std.specs.List.{list_any}
use Rattle.std.specs.declared.option.Option.{Option}
use Rattle.cip_num.specs.declared.plane.Vec2.{Vec2}
use Rattle.cip_mol.specs.Drawing.{Drawing}
use Rattle.cip_mol.specs.DrawnLigands.{drawn}
use Rattle.cip_mol.specs.Geometry.{geometry_of}
use Rattle.cip_mol.specs.Marks.{is_narrow_at, joins}
use Rattle.cip_mol.specs.Points.{flat_steps, is_spatial}
use Rattle.cip_mol.specs.declared.graph.molecule.Bond as molecules
use Rattle.cip_mol.specs.declared.graph.molecule.Mark.{Mark}
use Rattle.cip_mol.specs.declared.graph.molecule.Mark.TheVariants.{Plain, Up, Down, Either}
use Rattle.cip_mol.specs.declared.site.Cause.TheVariants.{Coincident, Reentrant}
use Rattle.cip_mol.specs.declared.site.Geometry.{Geometry}
use Rattle.cip_mol.specs.declared.site.Geometry.TheVariants.{Unknown}
use Rattle.cip_mol.specs.declared.site.Ligand.{Ligand}
use Rattle.cip_mol.specs.declared.site.Site.{Site}
use Rattle.cip_mol.specs.declared.site.Site.TheVariants.{Centre, Bond, Axis}
use Rattle.cip_digraph.specs.graph.DrawnGraph.{graph_of}
use Rattle.cip_digraph.specs.units.Centres.{is_centre, centre_ligands}
use Rattle.cip_digraph.specs.units.Units.{centre_site}

-- a bond without a mark that has its narrow end at the atom
abbrev pub without_mark : ℕ → molecules.Bond → molecules.Bond
without_mark atom bond = cond (is_narrow_at atom bond) (record bond { mark = Plain }) bond

abbrev pub bare_bonds : ℕ → List molecules.Bond → List molecules.Bond
bare_bonds atom bonds = map (without_mark atom) bonds

abbrev pub bare : Drawing → ℕ → Drawing
bare drawing atom = record { atoms = drawing.atoms; bonds = bare_bonds atom drawing.bonds }

abbrev pub is_plain : Mark → Bool
is_plain Plain = true
is_plain Up = false
is_plain Down = false
is_plain Either = false

-- a single bond between two atoms, without a mark
abbrev pub can_be_marked : ℕ → ℕ → molecules.Bond → Bool
can_be_marked atom neighbour bond = joins atom neighbour bond && ((bond.order == 1) && is_plain bond.mark)

-- the free bond to a neighbour with its narrow end at the atom, and any other bond as it is
abbrev pub marked_to : ℕ → ℕ → Mark → molecules.Bond → molecules.Bond
marked_to atom neighbour mark bond =
    cond (can_be_marked atom neighbour bond) (record { a = atom; b = neighbour; order = bond.order; mark = mark }) bond

abbrev pub marked : Drawing → ℕ → ℕ → Mark → Drawing
marked drawing atom neighbour mark =
    record { atoms = drawing.atoms; bonds = map (marked_to atom neighbour mark) drawing.bonds }

-- with no other mark at the atom
abbrev pub with_mark : Drawing → ℕ → ℕ → Mark → Drawing
with_mark drawing atom neighbour mark = marked (bare drawing atom) atom neighbour mark

-- the drawn ligands of a centre, ascending
abbrev pub drawn_ligands : Drawing → ℕ → List ℕ
drawn_ligands drawing atom = drawn (length drawing.atoms) (centre_ligands (graph_of drawing) atom)

abbrev pub directions : Drawing → ℕ → List Vec2
directions drawing atom = flat_steps drawing.atoms atom (drawn_ligands drawing atom)

abbrev pub shows_reentrant : Geometry → Bool
shows_reentrant (Unknown Reentrant) = true
shows_reentrant _ = false

abbrev pub shows_coincident : Geometry → Bool
shows_coincident (Unknown Coincident) = true
shows_coincident _ = false

-- of a centre at which no mark has its narrow end: the bond to a neighbour can be marked, and a mark there isn't one
-- between two other ligands
abbrev pub is_eligible : Drawing → ℕ → Site → ℕ → Bool
is_eligible drawing atom site neighbour =
    list_any (can_be_marked atom neighbour) drawing.bonds
    && not (shows_reentrant (geometry_of (marked drawing atom neighbour Up) site))

abbrev pub ligands_of : Site → List Ligand
ligands_of (Centre at ligands) = ligands
ligands_of (Bond a b first second) = []
ligands_of (Axis a middle b first second) = []

abbrev pub first_where : (ℕ → Bool) → List ℕ → Option ℕ
first_where test [] = None
first_where test (n ∷ ns) = cond (test n) (Some n) (first_where test ns)

-- the first eligible ligand
abbrev pub chosen : Drawing → ℕ → Option ℕ
chosen drawing atom =
    first_where (is_eligible (bare drawing atom) atom (centre_site (graph_of drawing) atom))
    (drawn_ligands drawing atom)

-- a centre unit is at the atom
abbrev pub has_centre : Drawing → ℕ → Bool
has_centre drawing atom = nat_lt atom (length drawing.atoms) && is_centre (graph_of drawing) atom

-- the drawing of a flat molecule without the marks of the centre at an atom, and the centre's site
pub record IsBareAt (drawing : Drawing) (atom : ℕ) (plain : Drawing) (site : Site) : Type 0 where
  pub flat : is_spatial drawing.atoms ≡ false
  pub centre : has_centre drawing atom ≡ true
  pub is_bare : plain ≡ bare drawing atom
  pub there : site ≡ centre_site (graph_of drawing) atom
