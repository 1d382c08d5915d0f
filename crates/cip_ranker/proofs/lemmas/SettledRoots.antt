-- What settling a root says of its cost, the steps taken, and its ligands.
use Rattle.std.proofs.Common.{◌≡◌, ◌<◌, ◌≤◌, ◌+◌, ◌-◌, ℕ, true, List, [], ◌∷◌, length, min, sym, ap, ◌∙◌, subst, arith}
use Rattle.std.proofs.lemmas.Bool.Decides.{nat_tests}
use Rattle.cip_rank.specs.declared.rules.Rules.{Rules}
use Rattle.cip_mol.specs.declared.site.Ligand.{Ligand}
use Rattle.cip_mol.specs.declared.site.Unit as units
use Rattle.cip_digraph.specs.digraph.Digraph.{digraph}
use Rattle.cip_digraph.specs.graph.Graph.{Graph}
use Rattle.cip_digraph.specs.graph.SoundGraphs.{IsSound}
use Rattle.cip_digraph.specs.units.Ends.{end_at}
use Rattle.cip_digraph.specs.units.Ranked.{has_tie}
use Rattle.cip_digraph.proofs.lemmas.numbered.PlaceTrees.{some_nodes}
use Rattle.cip_digraph.proofs.lemmas.ties.Settled.{settled_tie}
use Rattle.cip_arena.specs.Growth.{Growth, Holds}
use Rattle.cip_constitution.specs.Settling.{setting_of, SettledAs, deciding, cost_of}
use Rattle.cip_constitution.specs.declared.steps.settling.Settled.TheVariants.{Tied, Over}
use Rattle.cip_label.specs.Settings as records
use Rattle.cip_label.specs.Fitting.{IsFit}
use Rattle.cip_label.specs.BranchComparison.{Stands, RankedAs}
use Rattle.cip_label.specs.Steps.{Rises}
use Rattle.cip_label.specs.declared.root_ranker.Ranking.TheVariants as rankings
use Rattle.cip_ranker.specs.Desks.{settled_by}
use Rattle.cip_ranker.proofs.lemmas.RootLow.{root_low}

pub same_setting : (rules rules2 : Rules) (graph graph2 : Graph) (positions positions2 : List (List ℕ))
    (all all2 : List units.Unit) (ligands ligands2 : List Ligand)
    → rules ≡ rules2 → graph ≡ graph2 → positions ≡ positions2 → all ≡ all2 → ligands ≡ ligands2
    → setting_of rules graph positions all ligands ≡ setting_of rules2 graph2 positions2 all2 ligands2
same_setting rules rules2 graph graph2 positions positions2 all all2 ligands ligands2 r g p u l =
    λ k. setting_of (r k) (g k) (p k) (u k) (l k)

few_by : (before after cost bound : ℕ) → after + 1 ≤ before + cost → after + 1 ≤ before + bound
    → after ≤ before + (0 + (min cost bound - 1))
few_by before after cost bound lazy fits = grind (arith, nat_tests)

-- a digraph that was just started has one node
pub started_one : (g : Graph) (positions : List (List ℕ)) (a : Growth) → Holds g positions a → a.sphere ≡ 0
    → length a.nodes ≡ 1
started_one g positions a h none =
    h.tells.len ∙ ap (λ s. length (digraph g positions a.root s)) none

module _ (setting : records.LabelContext) (ligands : List Ligand) (root : ℕ) (a : Growth)
    (h : Holds setting.graph setting.positions a) (at : a.root ≡ root) where
  pub some_held : 0 < length a.nodes
  some_held =
      let nodes = some_nodes setting.graph setting.positions a.root a.sphere in
      let len = h.tells.len in
      omega (arith, nodes, len)

  pub rises : (bound before after first : ℕ) → a.bound ≡ bound → length a.nodes ≤ a.bound → first ≡ 1
      → after + first ≡ before + length a.nodes
      → after + 1 ≤ before + cost_of (settled_by setting ligands) a.root
      → Rises setting bound (end_at root ligands ∷ []) before after
  rises bound before after first of fits one cost lazy = record {
    later = omega (arith, some_held, one, cost);
    few = few_by before after (cost_of (settled_by setting ligands) root) bound
        (subst (λ r. after + 1 ≤ before + cost_of (settled_by setting ligands) r) at lazy)
        (omega (arith, of, fits, one, cost));
  }

  -- the nodes up to the sphere that settles are the cost
  pub cost_within : a.sphere ≡ deciding (settled_by setting ligands) a.root → length a.nodes ≤ a.bound
      → records.cost_in setting (end_at root ligands) ≤ a.bound
  cost_within settled fits =
      let len = h.tells.len in
      let same : records.cost_in setting (end_at root ligands)
      ≡ length (digraph setting.graph setting.positions a.root a.sphere) =
      sym (ap (λ s. length (digraph setting.graph setting.positions a.root s)) settled
      ∙ ap (λ r. length (digraph setting.graph setting.positions r (deciding (settled_by setting ligands) r))) at) in
      omega (arith, len, same, fits)

  pub over_ranked : (standing : Stands) → SettledAs (settled_by setting ligands) a Over
      → RankedAs setting a.bound root ligands standing rankings.Over
  over_ranked standing larger = subst (λ r. a.bound < cost_of (settled_by setting ligands) r) at larger

  pub tied_ranked : (standing : Stands) → IsSound setting.graph → IsFit setting.graph root ligands
      → SettledAs (settled_by setting ligands) a Tied → length a.nodes ≤ a.bound
      → RankedAs setting a.bound root ligands standing rankings.Tied
  tied_ranked standing sound fit settled fits = (
    cost_within settled.1 fits,
    subst (λ r. has_tie (records.root_in setting (end_at r ligands)) ≡ true) at
        (settled_tie setting.rules setting.graph setting.positions setting.units (end_at a.root ligands) sound
        (subst (λ r. r < length setting.graph.vertices) (sym at)
        (root_low setting.graph root ligands sound fit)) a.sphere settled.3),
  )
