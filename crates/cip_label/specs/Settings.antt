-- What the digraphs of a record's units are grown and ranked by. Own.
use Rattle.std.specs.Prelude.{◌≡◌, ℕ, List, map}
use Rattle.cip_rank.specs.declared.rules.Rules.{Rules}
use Rattle.cip_mol.specs.Drawing.{Drawing}
use Rattle.cip_mol.specs.declared.labels.descriptor.Sense.{Sense}
use Rattle.cip_mol.specs.declared.labels.outcome.Outcome.{Outcome}
use Rattle.cip_mol.specs.declared.site.Site.{Site}
use Rattle.cip_mol.specs.declared.site.Unit as units
use Rattle.cip_digraph.specs.digraph.Digraph.{Node}
use Rattle.cip_digraph.specs.graph.DrawnGraph.{graph_of}
use Rattle.cip_digraph.specs.graph.Graph.{Graph}
use Rattle.cip_digraph.specs.graph.SoundGraphs.{IsSound}
use Rattle.cip_digraph.specs.outcome.Outcomes as outcomes
use Rattle.cip_digraph.specs.rings.Positions.{positions_of}
use Rattle.cip_digraph.specs.rules.EarlyOrder as early
use Rattle.cip_digraph.specs.rules.Orders.{Seen}
use Rattle.cip_digraph.specs.units.DrawnUnits.{units_in}
use Rattle.cip_digraph.specs.units.Ends.{End}
use Rattle.cip_digraph.specs.units.Ranked.{Root}
use Rattle.cip_digraph.specs.units.Units.{sites_of}

pub record LabelContext : Type 0 where
  pub rules : Rules
  pub graph : Graph
  pub positions : List (List ℕ)
  pub units : List units.Unit

abbrev pub setting_of : Rules → Graph → List (List ℕ) → List units.Unit → LabelContext
setting_of rules graph positions all =
    record { rules = rules; graph = graph; positions = positions; units = all }

-- of a drawing
abbrev pub setting_in : Rules → Drawing → LabelContext
setting_in rules drawing = setting_of rules (graph_of drawing) (positions_of (graph_of drawing)) (units_in drawing)

-- units are at the sites of a graph
abbrev pub StandAtSites : Graph → List (List ℕ) → List units.Unit → Type 0
StandAtSites graph positions all = map (λ unit. unit.site) all ≡ sites_of graph positions

-- the graph is sound, and the units are at its sites
pub record IsProper (setting : LabelContext) : Type 0 where
  pub sound : IsSound setting.graph
  pub sites : StandAtSites setting.graph setting.positions setting.units

module _ (setting : LabelContext) where
  -- the whole digraph of a root with its descriptors
  abbrev pub seen_in : ℕ → Seen Node
  seen_in root = early.seen_at setting.rules setting.graph setting.positions setting.units root

  -- an end in its own digraph
  abbrev pub root_in : End → Root Node
  root_in end = outcomes.end_root setting.rules setting.graph setting.positions setting.units end

  -- the nodes up to the sphere in which an end is settled
  abbrev pub cost_in : End → ℕ
  cost_in end = outcomes.cost setting.rules setting.graph setting.positions setting.units end

  -- what is found of a site where its sense is known, and of a unit
  abbrev pub known_in : ℕ → Site → Sense → Outcome
  known_in bound site sense =
      outcomes.known_outcome setting.rules setting.graph setting.positions setting.units bound site sense

  abbrev pub outcome_in : ℕ → units.Unit → Outcome
  outcome_in bound unit =
      outcomes.outcome_of setting.rules setting.graph setting.positions setting.units bound unit
