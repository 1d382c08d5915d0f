-- The sphere in which the ligands of a root are settled, and how. Own.
use Rattle.std.specs.Prelude.{◌≡◌, ◌<◌, ℕ, suc, Bool, true, false, List, []}
use Rattle.cip_rank.specs.declared.rules.Rules.{Rules}
use Rattle.cip_mol.specs.declared.site.Ligand.{Ligand}
use Rattle.cip_mol.specs.declared.site.Unit as units
use Rattle.cip_arena.specs.Growth.{Growth}
use Rattle.cip_digraph.specs.outcome.Deciding.{is_settled}
use Rattle.cip_digraph.specs.digraph.Digraph.{Node, real_node, sphere}
use Rattle.cip_digraph.specs.rules.EarlyOrder.{seen_at, differ_within, are_alike_within}
use Rattle.cip_digraph.specs.units.Ends.{End, end_at}
use Rattle.cip_digraph.specs.graph.Graph.{Graph}
use Rattle.cip_digraph.specs.outcome.Outcomes.{is_in_unit, end_root, settled_in, cost}
use Rattle.cip_digraph.specs.units.Ranked.{some_pair}
use Rattle.cip_constitution.specs.declared.steps.settling.Settled.{Settled}
use Rattle.cip_constitution.specs.declared.steps.settling.Settled.TheVariants.{Ordered, Tied, Whole, Over}

-- what the ligands of a root are asked about
pub record RootContext : Type 0 where
  pub rules : Rules
  pub graph : Graph
  pub positions : List (List ℕ)
  pub units : List units.Unit
  pub ligands : List Ligand

abbrev pub setting_of : Rules → Graph → List (List ℕ) → List units.Unit → List Ligand → RootContext
setting_of rules graph positions all ligands =
    record { rules = rules; graph = graph; positions = positions; units = all; ligands = ligands }

abbrev pub end_of : RootContext → ℕ → End
end_of setting root = end_at root setting.ligands

-- every two ligands differ by Rule 1a within a sphere
abbrev pub differs : RootContext → ℕ → ℕ → Bool
differs setting root = differ_within setting.rules setting.graph setting.positions setting.units (end_of setting root)

-- two ligands are alike within a sphere
abbrev pub has_alike : RootContext → ℕ → ℕ → Bool
has_alike setting root number =
    some_pair
    (are_alike_within setting.rules setting.graph setting.positions setting.units (end_of setting root) number)
    (end_root setting.rules setting.graph setting.positions setting.units (end_of setting root)).ligands

-- a sphere settles
abbrev pub settles : RootContext → ℕ → ℕ → Bool
settles setting root =
    is_settled (seen_at setting.rules setting.graph setting.positions setting.units root) (real_node root [])
    (end_root setting.rules setting.graph setting.positions setting.units (end_of setting root)).ligands
    (is_in_unit setting.rules setting.graph setting.positions setting.units)

abbrev pub deciding : RootContext → ℕ → ℕ
deciding setting root = settled_in setting.rules setting.graph setting.positions setting.units (end_of setting root)

abbrev pub cost_of : RootContext → ℕ → ℕ
cost_of setting root = cost setting.rules setting.graph setting.positions setting.units (end_of setting root)

abbrev pub behind : RootContext → ℕ → ℕ → List Node
behind setting root number = sphere setting.graph setting.positions root number

-- the digraph is that up to the deciding sphere, and there is room for it; or there is none
abbrev pub SettledAs : RootContext → Growth → Settled → Type 0
SettledAs setting growth Ordered =
    (0 < growth.sphere) × (growth.sphere ≡ deciding setting growth.root)
    × (differs setting growth.root growth.sphere ≡ true)
SettledAs setting growth Tied =
    (0 < growth.sphere) × (growth.sphere ≡ deciding setting growth.root)
    × (differs setting growth.root growth.sphere ≡ false)
    × (has_alike setting growth.root growth.sphere ≡ true)
SettledAs setting growth Whole =
    (growth.sphere ≡ deciding setting growth.root) × (behind setting growth.root (suc growth.sphere) ≡ [])
    × (0 < growth.sphere → (differs setting growth.root growth.sphere ≡ false)
    × (has_alike setting growth.root growth.sphere ≡ false))
SettledAs setting growth Over = growth.bound < cost_of setting growth.root
