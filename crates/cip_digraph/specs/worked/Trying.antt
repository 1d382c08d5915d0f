-- How a molecule is tried: its units get the geometries of a list in their order, and all are ranked. Own.
use Rattle.std.specs.Prelude.{ℕ, List, [], ◌∷◌, map, length}
use Rattle.cip_rank.specs.declared.rules.Rules.{Rules}
use Rattle.cip_mol.specs.Drawing.{Drawing}
use Rattle.cip_mol.specs.declared.labels.outcome.Outcome.{Outcome}
use Rattle.cip_mol.specs.declared.site.Cause.TheVariants.{NoMark}
use Rattle.cip_mol.specs.declared.site.Geometry.{Geometry}
use Rattle.cip_mol.specs.declared.site.Geometry.TheVariants.{Unknown}
use Rattle.cip_mol.specs.declared.site.Site.{Site}
use Rattle.cip_mol.specs.declared.site.Unit as units
use Rattle.cip_digraph.specs.digraph.Digraph.{sphere}
use Rattle.cip_digraph.specs.graph.DrawnGraph.{graph_of}
use Rattle.cip_digraph.specs.outcome.Outcomes.{outcome_of}
use Rattle.cip_digraph.specs.rings.Positions.{positions_of}
use Rattle.cip_digraph.specs.units.Units.{sites_of}

abbrev pub with_geometries : List Site → List Geometry → List units.Unit
with_geometries [] geometries = []
with_geometries (site ∷ sites) [] = record { site = site; geometry = Unknown NoMark } ∷ with_geometries sites []
with_geometries (site ∷ sites) (geometry ∷ geometries) =
    record { site = site; geometry = geometry } ∷ with_geometries sites geometries

abbrev pub outcomes : Rules → ℕ → Drawing → List Geometry → List Outcome
outcomes rules bound drawing geometries =
    let graph = graph_of drawing in
    let positions = positions_of graph in
    let all = with_geometries (sites_of graph positions) geometries in
    map (outcome_of rules graph positions all bound) all

-- how many nodes are in each of some spheres of an atom's digraph
abbrev pub sizes : Drawing → ℕ → List ℕ → List ℕ
sizes drawing root spheres =
    let graph = graph_of drawing in
    let positions = positions_of graph in
    map (λ number. length (sphere graph positions root number)) spheres
