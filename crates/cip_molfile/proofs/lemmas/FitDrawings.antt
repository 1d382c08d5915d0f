-- What is drawn of a molecule fits together: its units are at its sites, and there are few.
use Rattle.std.proofs.Common.{◌≡◌, ◌≤◌, ◌∙◌, ℕ, List, ap, length, refl}
use Rattle.cip_mol.specs.Drawing.{Drawing}
use Rattle.cip_mol.specs.Geometry.{geometry_of}
use Rattle.cip_mol.specs.declared.site.Unit as units
use Rattle.cip_digraph.specs.graph.DrawnGraph.{graph_of}
use Rattle.cip_digraph.specs.graph.Graph.{Graph}
use Rattle.cip_digraph.specs.rings.Positions.{positions_of}
use Rattle.cip_digraph.specs.units.DrawnUnits.{units_in}
use Rattle.cip_digraph.specs.units.Units.{sites_of, units_of}
use Rattle.cip_molfile.specs.Drawings.{AreDrawnFrom, Fit}
use Rattle.cip_unit.proofs.lemmas.FewUnits.{few_units}
use Rattle.cip_unit.proofs.lemmas.Kept.{sites_kept}

module _ (drawing : Drawing) (few : length drawing.atoms ≤ 16384) where
  drawing_fits : Fit drawing
  drawing_fits =
      let graph = graph_of drawing in
      let positions = positions_of graph in
      let kept = sites_kept (geometry_of drawing) (sites_of graph positions) in
      record { sites = kept; few = few_units drawing graph positions (units_in drawing) few refl kept }

  -- as it is made, one after the other
  pub made_fits : (graph : Graph) (positions : List (List ℕ)) (all : List units.Unit) → graph ≡ graph_of drawing
      → positions ≡ positions_of graph → all ≡ units_of (geometry_of drawing) graph positions
      → AreDrawnFrom drawing graph positions all
  made_fits graph positions all g p u = record {
    is_graph = g;
    are_positions = p ∙ ap positions_of g;
    are_units = u
        ∙ ap (λ ps. units_of (geometry_of drawing) graph ps) p
        ∙ ap (λ (of : Graph). units_of (geometry_of drawing) of (positions_of of)) g;
    fit = drawing_fits;
  }
