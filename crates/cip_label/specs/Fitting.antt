-- What the ligands of a root have to be: at least two, different ones, each a neighbour of the root or a lone pair.
-- Own.
use Rattle.std.specs.Prelude.{◌≡◌, ◌≢◌, ◌≤◌, ℕ, true, List, All, flat_map, length}
use Rattle.std.specs.List.{AllPairs}
use Rattle.cip_mol.specs.declared.site.Ligand.{Ligand}
use Rattle.cip_mol.specs.declared.site.Ligand.TheVariants.{Vertex, LonePair}
use Rattle.cip_digraph.specs.rings.Alternating.{is_in}
use Rattle.cip_digraph.specs.units.Ends.{ends_of}
use Rattle.cip_digraph.specs.graph.Graph.{Graph, neighbours}
use Rattle.cip_digraph.specs.graph.SoundGraphs.{IsSound}
use Rattle.cip_mol.specs.declared.site.Site.{Site}
use Rattle.cip_mol.specs.declared.site.Unit as units
use Rattle.cip_label.specs.Settings.{StandAtSites}

abbrev pub IsNeighbour : Graph → ℕ → Ligand → Type 0
IsNeighbour graph root (Vertex vertex) = is_in vertex (neighbours graph root) ≡ true
IsNeighbour graph root LonePair = Unit {0}

pub record IsFit (graph : Graph) (root : ℕ) (ligands : List Ligand) : Type 0 where
  pub two : 2 ≤ length ligands
  pub few : length ligands ≤ 4
  pub beside : All (IsNeighbour graph root) ligands
  pub different : AllPairs ◌≢◌ ligands

-- the ends of a site together have at most four ligands
pub record IsFitSite (graph : Graph) (site : Site) : Type 0 where
  pub ends : All (λ end. IsFit graph end.at end.ligands) (ends_of site)
  pub four : length (flat_map (λ end. end.ligands) (ends_of site)) ≤ 4

abbrev pub AreFit : Graph → List units.Unit → Type 0
AreFit graph all = All (λ unit. IsFitSite graph unit.site) all

-- units at the sites of a sound graph are fit
abbrev pub UnitsAreFit : Type 0
UnitsAreFit =
    (graph : Graph) (positions : List (List ℕ)) (all : List units.Unit) → IsSound graph →
    StandAtSites graph positions all → AreFit graph all
