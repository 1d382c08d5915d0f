-- Renumbering carries the units of a drawing and what is found of them along.
use Rattle.std.proofs.Common.{ℕ, length}
use Rattle.cip_rank.specs.declared.rules.Rules.{Rules}
use Rattle.cip_mol.specs.Bonds as bonds
use Rattle.cip_mol.specs.Drawing.{Drawing}
use Rattle.cip_mol.specs.Geometry.{geometry_of}
use Rattle.cip_mol.specs.declared.site.Unit as units
use Rattle.cip_digraph.specs.graph.DrawnGraph.{graph_of}
use Rattle.cip_digraph.specs.graph.Graph.{Graph}
use Rattle.cip_digraph.specs.rings.Positions.{positions_of}
use Rattle.cip_digraph.specs.graph.Renumbering.{IsRenumbering}
use Rattle.cip_digraph.proofs.lemmas.bonds.Sound.{drawn_sound}
use Rattle.cip_symmetry.specs.CarriedUnits.{IsCarriedUnit, UnitsMatch}
use Rattle.cip_symmetry.specs.Images.{Among}
use Rattle.cip_symmetry.specs.Renamed.{IsRenamed}
use Rattle.cip_symmetry.proofs.lemmas.graph.CarriedPositions.{positions_renamed}
use Rattle.cip_symmetry.proofs.lemmas.outcomes.CarriedOutcomes.{outcome_carried, costs_carried}
use Rattle.cip_laws.specs.DrawnOutcomes.{units_in}
use Rattle.cip_laws.specs.RenumberingLaw.{GoTogether, OutcomesGo, RenumberingKeepsOutcomes, RenumberingsAreSound}
use Rattle.cip_laws.proofs.lemmas.units.ListedSites.{sites_listed}
use Rattle.cip_laws.proofs.lemmas.drawings.RenumberedBonds.{renumbered_sound}
use Rattle.cip_laws.proofs.lemmas.graph.RenumberedGraph.{carry, carry_onto, graph_renamed}
use Rattle.cip_laws.proofs.lemmas.units.RenumberedSenses.{site_sense}
use Rattle.cip_laws.proofs.lemmas.units.RenumberedUnits.{site_is, units_match}

module _ (drawing other : Drawing) (image : ℕ → ℕ) (sound : bonds.IsSound (length drawing.atoms) drawing.bonds)
    (their_sound : bonds.IsSound (length other.atoms) other.bonds) (r : IsRenumbering drawing other image) where
  abbrev graph : Graph
  graph = graph_of drawing

  abbrev theirs : Graph
  theirs = graph_of other

  renamed : IsRenamed graph theirs (carry drawing image)
  renamed = graph_renamed drawing other image r sound

  pub matching : UnitsMatch (carry drawing image) (units_in drawing) (units_in other)
  matching =
      units_match graph theirs (carry drawing image) renamed (carry_onto drawing other image r sound)
      (drawn_sound drawing sound) (drawn_sound other their_sound) (geometry_of drawing) (geometry_of other)
      (λ site two h k s.
      site_sense drawing other image r sound their_sound s.odd site two s.carried.shape s.carried.ends
      (sites_listed drawing (drawn_sound drawing sound) site h)
      (sites_listed other (drawn_sound other their_sound) two k))

  together : (rules : Rules) (bound : ℕ) (one two : units.Unit) → Among one (units_in drawing)
      → Among two (units_in other) → IsCarriedUnit (carry drawing image) one two
      → GoTogether rules bound drawing other image one two
  together rules bound one two h k u = record {
    first = h;
    second = k;
    site = site_is (carry drawing image) u.odd one.site two.site u.site;
    outcome =
        outcome_carried rules graph theirs (positions_of graph) (positions_of theirs) (carry drawing image) renamed
        (positions_renamed graph theirs (carry drawing image) renamed) (drawn_sound drawing sound) (units_in drawing)
        (units_in other) matching bound one two u;
    costs =
        costs_carried rules graph theirs (positions_of graph) (positions_of theirs) (carry drawing image) renamed
        (positions_renamed graph theirs (carry drawing image) renamed) (drawn_sound drawing sound) (units_in drawing)
        (units_in other) matching u.odd one.site two.site u.site.ends;
  }

  outcomes_go : (rules : Rules) (bound : ℕ) → OutcomesGo rules bound drawing other image
  outcomes_go rules bound = record {
    there = λ one h. let m = matching.there one h in (m.0, together rules bound one m.0 h m.1 m.2);
    back = λ two h. let m = matching.back two h in (m.0, together rules bound m.0 two m.1 h m.2);
  }

pub renumberings_are_sound : RenumberingsAreSound
renumberings_are_sound drawing other image sound r = renumbered_sound drawing other image r sound

pub renumbering_keeps_outcomes : RenumberingKeepsOutcomes
renumbering_keeps_outcomes rules bound drawing other image sound r =
    outcomes_go drawing other image sound (renumbered_sound drawing other image r sound) r rules bound
