-- The units of a drawing, with what it shows of them. Own.
use Rattle.std.specs.Prelude.{List}
use Rattle.cip_mol.specs.Drawing.{Drawing}
use Rattle.cip_mol.specs.Geometry.{geometry_of}
use Rattle.cip_mol.specs.declared.site.Unit as units
use Rattle.cip_digraph.specs.graph.DrawnGraph.{graph_of}
use Rattle.cip_digraph.specs.rings.Positions.{positions_of}
use Rattle.cip_digraph.specs.units.Units.{units_of}

abbrev pub units_in : Drawing → List units.Unit
units_in drawing = units_of (geometry_of drawing) (graph_of drawing) (positions_of (graph_of drawing))
