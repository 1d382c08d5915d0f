-- Two further units of a drawing and of a renumbered one, end by end: what is found of both.
use Rattle.std.proofs.Common.{◌≡◌, ◌≢◌, ◌⊎◌, inl, inr, ℕ, List, length, refl, Bool, true, false, cond, if◌then◌else◌}
use Rattle.cip_rank.specs.declared.rules.Rules.{Rules}
use Rattle.cip_mol.specs.Bonds as bonds
use Rattle.cip_mol.specs.Drawing.{Drawing}
use Rattle.cip_mol.specs.Geometry.{geometry_of}
use Rattle.cip_mol.specs.declared.site.Cause.TheVariants.{Either}
use Rattle.cip_mol.specs.declared.site.Geometry.{Geometry}
use Rattle.cip_mol.specs.declared.site.Geometry.TheVariants.{Unknown}
use Rattle.cip_mol.specs.declared.site.Ligand.{Ligand}
use Rattle.cip_mol.specs.declared.site.Site.{Site}
use Rattle.cip_mol.specs.declared.site.Site.TheVariants.{Bond, Axis}
use Rattle.cip_digraph.specs.graph.DrawnGraph.{graph_of}
use Rattle.cip_digraph.specs.graph.Graph.{Graph}
use Rattle.cip_digraph.specs.graph.Renumbering.{IsRenumbering}
use Rattle.cip_digraph.specs.graph.SoundGraphs.{IsSound}
use Rattle.cip_digraph.specs.rings.Positions.{positions_of}
use Rattle.cip_digraph.specs.units.Descriptors.{shape_of}
use Rattle.cip_digraph.specs.units.DoubleBonds.{end_ligands}
use Rattle.cip_digraph.specs.units.Ends.{end_at, ends_of}
use Rattle.cip_digraph.proofs.lemmas.bonds.Sound.{drawn_sound}
use Rattle.cip_laws.specs.DrawnOutcomes.{units_in, outcome_in, costs_in}
use Rattle.cip_symmetry.specs.Images.{AreForward, AreCrossed, IsImageOutcome, CostsGo}
use Rattle.cip_symmetry.specs.Renamed.{IsRenamed}
use Rattle.cip_symmetry.proofs.lemmas.outcomes.CarriedOutcomes.{costs_carried, outcome_by}
use Rattle.cip_symmetry.proofs.lemmas.graph.CarriedPositions.{positions_renamed}
use Rattle.cip_laws.proofs.lemmas.units.CarriedSites.{SameUnit, pair_forward, pair_crossed}
use Rattle.cip_symmetry.specs.CarriedUnits.{AreEndsCarried, IsCarriedPair, IsCarriedGeometry, UnitsMatch}
use Rattle.cip_symmetry.proofs.lemmas.digraph.CarriedEnds.{two_go}
use Rattle.cip_laws.proofs.lemmas.drawings.Renumbered.{matching}
use Rattle.cip_laws.proofs.lemmas.graph.RenumberedGraph.{carry, graph_renamed}
use Rattle.cip_laws.proofs.lemmas.units.RenumberedSenses.{IsEndListed, site_sense}
use Rattle.cip_laws.proofs.lemmas.units.RenumberedUnits.{ends_are}

abbrev pub two_ended : Bool → ℕ → ℕ → List Ligand → List Ligand → Site
two_ended flat a b first second = cond flat (Bond a b first second) (Axis a a b first second)

shape_two : (flat : Bool) (a b p q : ℕ) (first second third fourth : List Ligand)
    → shape_of (two_ended flat p q third fourth) ≡ shape_of (two_ended flat a b first second)
shape_two true a b p q first second third fourth = refl
shape_two false a b p q first second third fourth = refl

abbrev pub unless : Bool → Geometry → Geometry
unless undecided geometry = if undecided then Unknown Either else geometry

module _ (drawing other : Drawing) (image : ℕ → ℕ) (r : IsRenumbering drawing other image)
    (sound : bonds.IsSound (length drawing.atoms) drawing.bonds)
    (their_sound : bonds.IsSound (length other.atoms) other.bonds) where
  abbrev pub c : ℕ → ℕ
  c = carry drawing image

  abbrev pub graph : Graph
  graph = graph_of drawing

  abbrev pub theirs : Graph
  theirs = graph_of other

  pub renamed : IsRenamed graph theirs c
  renamed = graph_renamed drawing other image r sound

  pub one_sound : IsSound graph
  one_sound = drawn_sound drawing sound

  pub two_sound : IsSound theirs
  two_sound = drawn_sound other their_sound

  matched : UnitsMatch c (units_in drawing) (units_in other)
  matched = matching drawing other image sound their_sound r

  -- what is found of two sites that go together, each with what is known of its geometry
  pub record TwoMatched (one two : Site) (geometry turned : Geometry) : Type 0 where
    pub ends : AreForward c one two ⊎ AreCrossed c one two
    pub outcome : (rules : Rules) (bound : ℕ)
        → IsImageOutcome c one two (outcome_in rules bound drawing (record { site = one; geometry = geometry }))
        (outcome_in rules bound other (record { site = two; geometry = turned }))
    pub costs : (rules : Rules)
        → CostsGo c one two (costs_in rules drawing (record { site = one; geometry = geometry }))
        (costs_in rules other (record { site = two; geometry = turned }))

  sense_two : (flat odd : Bool) (a b p q : ℕ) (first second third fourth : List Ligand)
      → IsCarriedPair c odd (end_at a first) (end_at b second) (end_at p third) (end_at q fourth)
      → IsEndListed drawing (end_at a first) → IsEndListed drawing (end_at b second)
      → IsEndListed other (end_at p third) → IsEndListed other (end_at q fourth)
      → IsCarriedGeometry odd (geometry_of drawing (two_ended flat a b first second))
      (geometry_of other (two_ended flat p q third fourth))
  sense_two true odd a b p q first second third fourth pair k l m n =
      site_sense drawing other image r sound their_sound odd (Bond a b first second) (Bond p q third fourth) refl
      (two_go c odd (end_at a first) (end_at b second) (end_at p third) (end_at q fourth) pair) (k, l) (m, n)
  sense_two false odd a b p q first second third fourth pair k l m n =
      site_sense drawing other image r sound their_sound odd (Axis a a b first second) (Axis p p q third fourth) refl
      (two_go c odd (end_at a first) (end_at b second) (end_at p third) (end_at q fourth) pair) (k, l) (m, n)

  unless_carried : (odd undecided : Bool) (g h : Geometry) → IsCarriedGeometry odd g h
      → IsCarriedGeometry odd (unless undecided g) (unless undecided h)
  unless_carried odd true g h carried = refl
  unless_carried odd false g h carried = carried

  ends_go : (flat odd : Bool) (a b p q : ℕ) (first second third fourth : List Ligand)
      → IsCarriedPair c odd (end_at a first) (end_at b second) (end_at p third) (end_at q fourth)
      → AreEndsCarried c odd (ends_of (two_ended flat a b first second)) (ends_of (two_ended flat p q third fourth))
  ends_go true odd a b p q first second third fourth pair =
      two_go c odd (end_at a first) (end_at b second) (end_at p third) (end_at q fourth) pair
  ends_go false odd a b p q first second third fourth pair =
      two_go c odd (end_at a first) (end_at b second) (end_at p third) (end_at q fourth) pair

  same_matched : (flat odd undecided : Bool) (a b p q : ℕ) (first second third fourth : List Ligand)
      → IsCarriedPair c odd (end_at a first) (end_at b second) (end_at p third) (end_at q fourth)
      → IsEndListed drawing (end_at a first) → IsEndListed drawing (end_at b second)
      → IsEndListed other (end_at p third) → IsEndListed other (end_at q fourth)
      → TwoMatched (two_ended flat a b first second) (two_ended flat p q third fourth)
      (unless undecided (geometry_of drawing (two_ended flat a b first second)))
      (unless undecided (geometry_of other (two_ended flat p q third fourth)))
  same_matched flat odd undecided a b p q first second third fourth pair k l m n =
      let one = two_ended flat a b first second in
      let two = two_ended flat p q third fourth in
      let ends = ends_go flat odd a b p q first second third fourth pair in record {
        ends = ends_are c odd one two ends;
        outcome = λ rules bound.
            outcome_by rules graph theirs (positions_of graph) (positions_of theirs) c renamed
            (positions_renamed graph theirs c renamed) one_sound (units_in drawing) (units_in other) matched bound odd
            one two (unless undecided (geometry_of drawing one)) (unless undecided (geometry_of other two))
            (shape_two flat a b p q first second third fourth) ends
            (unless_carried odd undecided (geometry_of drawing one) (geometry_of other two)
            (sense_two flat odd a b p q first second third fourth pair k l m n));
        costs = λ rules.
            costs_carried rules graph theirs (positions_of graph) (positions_of theirs) c renamed
            (positions_renamed graph theirs c renamed) one_sound (units_in drawing) (units_in other) matched odd one two
            ends;
      }

  pub two_matched : (flat their_flat odd undecided theirs_undecided : Bool) → their_flat ≡ flat
      → theirs_undecided ≡ undecided → (a b p q : ℕ) (first second third fourth : List Ligand)
      → IsCarriedPair c odd (end_at a first) (end_at b second) (end_at p third) (end_at q fourth)
      → IsEndListed drawing (end_at a first) → IsEndListed drawing (end_at b second)
      → IsEndListed other (end_at p third) → IsEndListed other (end_at q fourth)
      → TwoMatched (two_ended flat a b first second) (two_ended their_flat p q third fourth)
      (unless undecided (geometry_of drawing (two_ended flat a b first second)))
      (unless theirs_undecided (geometry_of other (two_ended their_flat p q third fourth)))
  two_matched flat their_flat odd undecided theirs_undecided e f a b p q first second third fourth pair k l m n =
      rw (e, f) (same_matched flat odd undecided a b p q first second third fourth pair k l m n)

  -- the two ends in their order, or crossed
  abbrev pub GoEnds : ℕ → ℕ → ℕ → ℕ → Type 0
  GoEnds a b p q = ((p ≡ c a) × (q ≡ c b)) ⊎ ((p ≡ c b) × (q ≡ c a))

  abbrev PairOf : List ℕ → List ℕ → ℕ → ℕ → ℕ → ℕ → Type 0
  PairOf unit other_unit a b p q =
      (odd : Bool)
      × IsCarriedPair c odd (end_at a (end_ligands graph unit a)) (end_at b (end_ligands graph unit b))
      (end_at p (end_ligands theirs other_unit p)) (end_at q (end_ligands theirs other_unit q))

  pub pair_of : (unit other_unit : List ℕ) (a b p q : ℕ) → SameUnit graph theirs c renamed unit other_unit → a ≢ b
      → GoEnds a b p q → PairOf unit other_unit a b p q
  pair_of unit other_unit a b p q same differ (inl e) =
      rw (e.0, e.1) (pair_forward graph theirs c renamed a b unit other_unit same differ)
  pair_of unit other_unit a b p q same differ (inr e) =
      rw (e.0, e.1) (pair_crossed graph theirs c renamed a b unit other_unit same differ)
