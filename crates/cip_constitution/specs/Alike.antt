-- Ligands that are alike, by closed branches and rank numbers. Own.
use Rattle.std.specs.Prelude.{◌≡◌, ◌&&◌, ℕ, ℤ, pos, Bool, not, List, [], ◌∷◌, map}
use Rattle.std.specs.List.{list_any}
use Rattle.cip_rank.specs.declared.rules.Rules.{Rules}
use Rattle.cip_branches.specs.Deciding.{Branched}
use Rattle.cip_rules.specs.Taking.{TakesRule}
use Rattle.cip_mol.specs.declared.labels.outcome.Rule.{Rule}
use Rattle.cip_mol.specs.declared.labels.outcome.Rule.TheVariants.{R1b, R2}
use Rattle.cip_digraph.specs.declared.nodes.NodeData.{NodeData}
use Rattle.cip_digraph.specs.digraph.NodeList.{distance_told}
use Rattle.cip_digraph.specs.rules.Keys.{lower_precedes}
use Rattle.cip_mol.specs.declared.site.Ligand.{Ligand}
use Rattle.cip_mol.specs.declared.site.Unit as units
use Rattle.cip_digraph.specs.rules.Auxiliary.{ligand_node}
use Rattle.cip_digraph.specs.outcome.Deciding.{is_empty, nodes_below, nodes_within}
use Rattle.cip_digraph.specs.digraph.Digraph.{real_node}
use Rattle.cip_digraph.specs.graph.Graph.{Graph}
use Rattle.cip_digraph.specs.outcome.Outcomes.{is_in_unit}
use Rattle.cip_digraph.specs.digraph.View.{view_children}
use Rattle.cip_arena.specs.Growth.{Growth}
use Rattle.cip_constitution.specs.Standing.{differ_told}

-- a ligand has no node beyond the last sphere, and holds no atom of a unit
abbrev pub is_closed_ligand : Rules → Graph → List (List ℕ) → List units.Unit → Growth → Ligand → Bool
is_closed_ligand rules graph positions all growth ligand =
    let view = view_children graph positions (growth.root ∷ []) in
    let nodes = ligand_node (view (real_node growth.root [])) ligand in
    is_empty (nodes_below view growth.sphere nodes)
    && not (list_any (is_in_unit rules graph positions all) (nodes_within view growth.sphere nodes))

abbrev pub alike_told : Rules → Graph → List (List ℕ) → List units.Unit → Growth → List ℕ → Ligand → Ligand → Bool
alike_told rules graph positions all growth ranks a b =
    is_closed_ligand rules graph positions all growth a
    && (is_closed_ligand rules graph positions all growth b && not (differ_told ranks growth.nodes a b))

-- a rule was taken over branches as far as the last sphere
pub record TakesWhole (begin : Branched) (keys : List ℤ) (rule : Rule) (now : Branched) : Type 0 where
  pub takes : TakesRule begin keys rule [] now []
  pub reached : takes.far ≡ begin.last

-- Rules 1b and 2 were
pub record TakesBoth (begin : Branched) (rules : Rules) (all : List NodeData) (now : Branched) : Type 0 where
  pub mid : Branched
  pub distances : TakesWhole begin (map (λ node_data. lower_precedes (distance_told rules node_data)) all) R1b mid
  pub masses : TakesWhole mid (map (λ node_data. pos node_data.mass) all) R2 now
