-- The mirror image of a drawing has the same graph and the reflected units.
use Rattle.std.proofs.Common.{◌≡◌, ℕ, ◌+◌, List, [], ◌∷◌, map, length, refl, sym, ap, ◌∙◌, cond, flat_map, replicate}
use Rattle.std.specs.List.{range_with_len}
use Rattle.std.proofs.lemmas.List.{length-map}
use Rattle.std.proofs.lemmas.List.Sums.{sum_by-cons}
use Rattle.std.proofs.Math.ListN.{get_or-map}
use Rattle.cip_mol.specs.Bonds.{touches, degree}
use Rattle.cip_mol.specs.Drawing.{Drawing}
use Rattle.cip_mol.specs.Geometry.{geometry_of}
use Rattle.cip_mol.specs.Points.{no_atom}
use Rattle.cip_mol.specs.Reflection.{mirrored_atom, mirrored_bond, reflected}
use Rattle.cip_mol.specs.Senses.{other_way}
use Rattle.cip_mol.specs.declared.labels.descriptor.Sense.TheVariants.{Plus, Minus}
use Rattle.cip_mol.specs.declared.graph.molecule.Bond as molecules
use Rattle.cip_mol.specs.declared.site.Geometry.{Geometry}
use Rattle.cip_mol.specs.declared.site.Geometry.TheVariants.{Known, Unknown}
use Rattle.cip_mol.specs.declared.site.Site.{Site}
use Rattle.cip_mol.specs.declared.site.Site.TheVariants.{Centre, Bond, Axis}
use Rattle.cip_mol.specs.declared.site.Unit as units
use Rattle.cip_laws.proofs.lemmas.senses.ReflectedAxes.{reflection_turns_axes}
use Rattle.cip_laws.proofs.lemmas.senses.ReflectedCentres.{reflection_turns_centres}
use Rattle.cip_laws.proofs.lemmas.senses.ReflectedPairs.{reflection_keeps_bonds}
use Rattle.cip_digraph.specs.graph.DrawnGraph.{atom_vertex, bond_edge, carriers, graph_of}
use Rattle.cip_digraph.specs.rules.Exchange.{reflected_geometry, reflected_unit}
use Rattle.cip_digraph.specs.declared.drawing.graph.Edge.{Edge}
use Rattle.cip_digraph.specs.graph.Graph.{Graph}
use Rattle.cip_digraph.specs.graph.Hydrogens.{atom_at, bond_orders, hydrogens_of}
use Rattle.cip_digraph.specs.graph.LonePairs.{lone_pair_of}
use Rattle.cip_digraph.specs.graph.Neglected.{neglects_at, is_counted}
use Rattle.cip_digraph.specs.rings.Positions.{positions_of}
use Rattle.cip_digraph.specs.units.Ends.{ends_of}
use Rattle.cip_digraph.specs.units.Units.{sites_of}
use Rattle.cip_digraph.proofs.lemmas.reflected.Units.{auxiliary_exchanged}
use Rattle.cip_laws.specs.DrawnOutcomes.{units_in}
use Rattle.cip_rank.specs.Matching.{InPairs}
use Rattle.cip_laws.proofs.lemmas.drawings.RenumberedAtoms.{orders_alike}
use Rattle.cip_laws.specs.ReflectionLaw.{ReflectsDrawing, ReflectionKeepsDrawings}
use Rattle.cip_symmetry.proofs.lemmas.lists.CarriedLists.{mapped_twice, mapped_by}
use Rattle.cip_laws.proofs.lemmas.outcomes.ReflectedOutcomes.{costs_stay, reflection_mirrors_outcomes}

module _ (drawing : Drawing) where
  abbrev mirror : Drawing
  mirror = reflected drawing

  atom_mirrored : (k : ℕ) → atom_at mirror k ≡ mirrored_atom (atom_at drawing k)
  atom_mirrored k = get_or-map mirrored_atom drawing.atoms k no_atom

  in_mirror : (some : List molecules.Bond)
      → InPairs (λ bond other. other ≡ mirrored_bond bond) some (map mirrored_bond some)
  in_mirror [] = tt
  in_mirror (bond ∷ some) = (refl, in_mirror some)

  orders_kept : (k : ℕ) (some : List molecules.Bond) → bond_orders k (map mirrored_bond some) ≡ bond_orders k some
  orders_kept k some =
      orders_alike (λ bond other. other ≡ mirrored_bond bond) k k (λ n m e. ap (touches k) e)
      (λ n m e. ap (λ (bond : molecules.Bond). bond.order) e) some (map mirrored_bond some) (in_mirror some)

  degree_kept : (k : ℕ) (some : List molecules.Bond) → degree k (map mirrored_bond some) ≡ degree k some
  degree_kept k [] = refl
  degree_kept k (b ∷ some) =
      sum_by-cons (λ c. cond (touches k c) 1 0) (mirrored_bond b) (map mirrored_bond some)
      ∙ ap (λ d. cond (touches k b) 1 0 + d) (degree_kept k some)
      ∙ sym (sum_by-cons (λ c. cond (touches k c) 1 0) b some)

  hydrogens_kept : (k : ℕ) → hydrogens_of mirror k ≡ hydrogens_of drawing k
  hydrogens_kept k = rw (atom_mirrored k, orders_kept k drawing.bonds)

  lone_kept : (k : ℕ) → lone_pair_of mirror k ≡ lone_pair_of drawing k
  lone_kept k = rw (hydrogens_kept k, atom_mirrored k, orders_kept k drawing.bonds)

  neglects_kept : (k : ℕ) → neglects_at mirror k ≡ neglects_at drawing k
  neglects_kept k = rw (lone_kept k, hydrogens_kept k, degree_kept k drawing.bonds, atom_mirrored k)

  counted_kept : (b : molecules.Bond) → is_counted mirror (mirrored_bond b) ≡ is_counted drawing b
  counted_kept b = rw (neglects_kept b.a, neglects_kept b.b)

  edge_kept : (b : molecules.Bond) → bond_edge mirror (mirrored_bond b) ≡ bond_edge drawing b
  edge_kept b = ap {B = Edge} (λ x. record { a = b.a; b = b.b; order = b.order; counted = x }) (counted_kept b)

  vertex_kept : (k : ℕ) → atom_vertex mirror k ≡ atom_vertex drawing k
  vertex_kept k = rw (lone_kept k, atom_mirrored k)

  long : length mirror.atoms ≡ length drawing.atoms
  long = length-map drawing.atoms mirrored_atom

  carriers_kept : carriers mirror ≡ carriers drawing
  carriers_kept =
      ap (λ n. flat_map (λ atom. replicate (hydrogens_of mirror atom) atom) (range_with_len 0 n)) long
      ∙ ap (λ (h : ℕ → ℕ). flat_map (λ atom. replicate (h atom) atom) (range_with_len 0 (length drawing.atoms)))
      (λ i k. hydrogens_kept k i)

  pub graph_kept : graph_of mirror ≡ graph_of drawing
  unfolding graph_of
  graph_kept =
      let vertices = map (atom_vertex mirror) (range_with_len 0 (length mirror.atoms)) in
      let theirs : vertices ≡ map (atom_vertex drawing) (range_with_len 0 (length drawing.atoms)) =
      ap (λ n. map (atom_vertex mirror) (range_with_len 0 n)) long
      ∙ mapped_by (atom_vertex mirror) (atom_vertex drawing) vertex_kept (range_with_len 0 (length drawing.atoms)) in
      let edges : map (bond_edge mirror) mirror.bonds ≡ map (bond_edge drawing) drawing.bonds =
      mapped_twice mirrored_bond (bond_edge mirror) drawing.bonds
      ∙ mapped_by (λ b. bond_edge mirror (mirrored_bond b)) (bond_edge drawing) edge_kept drawing.bonds in
      rw (theirs, edges, carriers_kept, long)

  pub geometry_mirrored : (site : Site) → geometry_of mirror site ≡ reflected_geometry site (geometry_of drawing site)
  geometry_mirrored (Centre at ligands) =
      reflection_turns_centres drawing at ligands ∙ by (geometry_of drawing (Centre at ligands))
    where
      by : (g : Geometry) → other_way g ≡ reflected_geometry (Centre at ligands) g
      by (Known Plus) = refl
      by (Known Minus) = refl
      by (Unknown cause) = refl
  geometry_mirrored (Bond a b first second) =
      reflection_keeps_bonds drawing a b first second ∙ by (geometry_of drawing (Bond a b first second))
    where
      by : (g : Geometry) → g ≡ reflected_geometry (Bond a b first second) g
      by (Known sense) = refl
      by (Unknown cause) = refl
  geometry_mirrored (Axis a middle b first second) =
      reflection_turns_axes drawing a b first second ∙ by (geometry_of drawing (Axis a middle b first second))
    where
      by : (g : Geometry) → other_way g ≡ reflected_geometry (Axis a middle b first second) g
      by (Known Plus) = refl
      by (Known Minus) = refl
      by (Unknown cause) = refl

  pub units_mirrored : units_in mirror ≡ map reflected_unit (units_in drawing)
  units_mirrored =
      let sites = sites_of (graph_of drawing) (positions_of (graph_of drawing)) in
      ap {A = Graph} {B = List units.Unit}
      (λ g. map {B = units.Unit} (λ site. record { site = site; geometry = geometry_of mirror site })
      (sites_of g (positions_of g))) graph_kept
      ∙ mapped_by {Y = units.Unit} (λ site. record { site = site; geometry = geometry_of mirror site })
      (λ site. record { site = site; geometry = reflected_geometry site (geometry_of drawing site) })
      (λ site. ap {B = units.Unit} (λ g. record { site = site; geometry = g }) (geometry_mirrored site)) sites
      ∙ sym
      (mapped_twice {Y = units.Unit} (λ site. record { site = site; geometry = geometry_of drawing site })
      reflected_unit sites)

  reflects_drawing : ReflectsDrawing drawing
  reflects_drawing = record {
    graph = graph_kept;
    all_units = units_mirrored;
    descriptors = λ rules path.
        rw (units_mirrored, graph_kept)
        (auxiliary_exchanged rules (graph_of drawing) (positions_of (graph_of drawing)) (units_in drawing) path);
    costs = λ rules unit.
        rw (units_mirrored, graph_kept)
        (costs_stay rules (graph_of drawing) (positions_of (graph_of drawing)) (units_in drawing) (ends_of unit.site));
    outcomes = λ rules bound unit.
        rw (units_mirrored, graph_kept)
        (reflection_mirrors_outcomes rules (graph_of drawing) (positions_of (graph_of drawing)) (units_in drawing) bound
        unit);
  }

pub reflection_keeps_drawings : ReflectionKeepsDrawings
reflection_keeps_drawings drawing = reflects_drawing drawing
