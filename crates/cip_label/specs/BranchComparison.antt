-- The ligands of a root as they are ranked, where it is known how the branches at neighbours of the root compare. Own.
use Rattle.std.specs.Prelude.{◌≡◌, ◌≤◌, ◌<◌, ℕ, Bool, true, false, List, [], ◌∷◌, map, slice_get, None, Some}
use Rattle.std.specs.Ordering.{ordering_reverse}
use Rattle.std.specs.declared.option.Option.{Option}
use Rattle.cip_mol.specs.declared.site.Ligand.{Ligand}
use Rattle.cip_mol.specs.declared.site.Ligand.TheVariants.{Vertex, LonePair}
use Rattle.cip_digraph.specs.declared.decisions.decision.Decision.{Decision}
use Rattle.cip_digraph.specs.digraph.Digraph.{real_node}
use Rattle.cip_digraph.specs.rules.Decisions.{order}
use Rattle.cip_digraph.specs.units.Ends.{end_at}
use Rattle.cip_digraph.specs.units.Ranked.{Root, has_tie}
use Rattle.cip_label.specs.declared.root_ranker.Ranking.{Ranking}
use Rattle.cip_label.specs.declared.root_ranker.Ranking.TheVariants.{Known, Tied, Over}
use Rattle.cip_label.specs.Settings.{LabelContext, seen_in, root_in, cost_in}

-- a decision between two as it is from the other one
abbrev pub reversed : Option Decision → Option Decision
reversed None = None
reversed (Some decision) = Some (record decision { side = ordering_reverse decision.side })

-- how branches compare by the vertices of two neighbours of the root, by all rules and with the last one turned
abbrev pub Stands : Type 0
Stands = Bool → ℕ → ℕ → Option Decision

-- the vertex of a ligand, none for a lone pair
abbrev pub branch : Ligand → List ℕ
branch (Vertex vertex) = vertex ∷ []
branch LonePair = []

-- a root whose branches are given by their vertices
abbrev pub root_of : Stands → List Ligand → Root ℕ
root_of standing ligands = record {
  order = standing true;
  turned = standing false;
  ligands = map branch ligands;
}

-- the branches at the vertices of ligands stand as in the whole digraph
pub record StandsAs (setting : LabelContext) (root : ℕ) (ligands : List Ligand) (standing : Stands) : Type 0 where
  pub each : (r_first : Bool) (i j a b : ℕ) → slice_get ligands i ≡ Some (Vertex a) →
      slice_get ligands j ≡ Some (Vertex b) →
      standing r_first a b ≡ order (seen_in setting root) r_first (real_node a (root ∷ [])) (real_node b (root ∷ []))

-- what is known of the ligands of a root within a bound
abbrev pub RankedAs : LabelContext → ℕ → ℕ → List Ligand → Stands → Ranking → Type 0
RankedAs setting bound root ligands standing Known =
    (cost_in setting (end_at root ligands) ≤ bound) × StandsAs setting root ligands standing
RankedAs setting bound root ligands standing Tied =
    (cost_in setting (end_at root ligands) ≤ bound) × (has_tie (root_in setting (end_at root ligands)) ≡ true)
RankedAs setting bound root ligands standing Over = bound < cost_in setting (end_at root ligands)
