-- What is found of the units of a drawing, from its atoms and bonds on. Own.
use Rattle.std.specs.Prelude.{ℕ, List, [], ◌∷◌, map}
use Rattle.std.specs.declared.option.Option.{Option}
use Rattle.cip_rank.specs.declared.rules.Rules.{Rules}
use Rattle.cip_mol.specs.Drawing.{Drawing}
use Rattle.cip_mol.specs.Geometry.{geometry_of}
use Rattle.cip_mol.specs.declared.labels.descriptor.Descriptor.{Descriptor}
use Rattle.cip_mol.specs.declared.labels.outcome.Outcome.{Outcome}
use Rattle.cip_mol.specs.declared.site.Unit as units
use Rattle.cip_digraph.specs.digraph.Digraph.{Node}
use Rattle.cip_digraph.specs.digraph.View.{seen_from}
use Rattle.cip_digraph.specs.graph.DrawnGraph.{graph_of}
use Rattle.cip_digraph.specs.outcome.Outcomes.{cost, outcome_of}
use Rattle.cip_digraph.specs.rings.Positions.{positions_of}
use Rattle.cip_digraph.specs.rules.Auxiliary.{auxiliary}
use Rattle.cip_digraph.specs.rules.Orders.{Seen}
use Rattle.cip_digraph.specs.units.Ends.{ends_of}
use Rattle.cip_digraph.specs.units.Units.{units_of}

-- the units of a drawing with what it shows of them
abbrev pub units_in : Drawing → List units.Unit
units_in drawing = units_of (geometry_of drawing) (graph_of drawing) (positions_of (graph_of drawing))

abbrev pub outcome_in : Rules → ℕ → Drawing → units.Unit → Outcome
outcome_in rules bound drawing unit =
    outcome_of rules (graph_of drawing) (positions_of (graph_of drawing)) (units_in drawing) bound unit

-- the nodes that are looked at from each end of a unit
abbrev pub costs_in : Rules → Drawing → units.Unit → List ℕ
costs_in rules drawing unit =
    map (cost rules (graph_of drawing) (positions_of (graph_of drawing)) (units_in drawing)) (ends_of unit.site)

-- the descriptor at the real node of a path in the digraph of any root
abbrev pub descriptor_in : Rules → Drawing → List ℕ → Option Descriptor
descriptor_in rules drawing path =
    auxiliary rules (graph_of drawing) (positions_of (graph_of drawing)) (units_in drawing) path

-- the whole digraph of a vertex, with the descriptors that are in it
abbrev pub digraph_in : Rules → Drawing → ℕ → Seen Node
digraph_in rules drawing root =
    seen_from rules (graph_of drawing) (positions_of (graph_of drawing)) (root ∷ []) (descriptor_in rules drawing)
