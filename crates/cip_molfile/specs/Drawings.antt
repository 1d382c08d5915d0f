-- What is drawn of a molecule: its graph, where its double bonds can be, and its units. Own.
use Rattle.std.specs.Prelude.{◌≡◌, ◌<◌, ◌-◌, ◌^◌, ℕ, List, length, map}
use Rattle.cip_mol.specs.Drawing.{Drawing}
use Rattle.cip_mol.specs.declared.site.Unit as units
use Rattle.cip_digraph.specs.graph.DrawnGraph.{graph_of}
use Rattle.cip_digraph.specs.graph.Graph.{Graph}
use Rattle.cip_digraph.specs.rings.Positions.{positions_of}
use Rattle.cip_digraph.specs.units.DrawnUnits.{units_in}
use Rattle.cip_digraph.specs.units.Units.{sites_of}

-- the units of a molecule are at the sites of its graph, and there are few
pub record Fit (drawing : Drawing) : Type 0 where
  pub sites : map (λ unit. unit.site) (units_in drawing) ≡ sites_of (graph_of drawing) (positions_of (graph_of drawing))
  pub few : length (units_in drawing) < 2 ^ 32 - 1

-- a graph, positions and units are those of a molecule
pub record AreDrawnFrom (drawing : Drawing) (graph : Graph) (positions : List (List ℕ)) (all : List units.Unit) : Type 0 where
  pub is_graph : graph ≡ graph_of drawing
  pub are_positions : positions ≡ positions_of (graph_of drawing)
  pub are_units : all ≡ units_in drawing
  pub fit : Fit drawing
