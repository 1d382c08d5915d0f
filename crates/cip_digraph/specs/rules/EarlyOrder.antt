-- What the spheres up to one say of the order of a root's ligands, before the others are looked at. Own.
use Rattle.std.specs.Prelude.{◌≡◌, ◌<◌, ◌≤◌, ◌+◌, ℕ, Bool, true, false, List, [], ◌∷◌, length}
use Rattle.std.specs.declared.option.Option.{Option}
use Rattle.cip_rank.specs.declared.rules.Rules.{Rules}
use Rattle.cip_mol.specs.declared.labels.outcome.Rule.TheVariants.{R1a}
use Rattle.cip_mol.specs.declared.site.Unit as units
use Rattle.cip_digraph.specs.rules.Auxiliary.{auxiliary}
use Rattle.cip_digraph.specs.outcome.Deciding.{all_differ, are_alike}
use Rattle.cip_digraph.specs.declared.decisions.decision.Decision.{Decision}
use Rattle.cip_digraph.specs.rules.Decisions.{first_difference, first_decision}
use Rattle.cip_digraph.specs.digraph.Digraph.{Node, real_node}
use Rattle.cip_digraph.specs.units.Ends.{End}
use Rattle.cip_digraph.specs.graph.Graph.{Graph}
use Rattle.cip_digraph.specs.rules.Orders.{Seen, rule_1a}
use Rattle.cip_digraph.specs.outcome.Outcomes.{is_in_unit, end_root}
use Rattle.cip_digraph.specs.units.Ranked.{
  Root,
  ranks,
  turned_ranks,
  decisions,
  has_tie,
  ranked_places,
  decisions_along,
  some_pair,
}
use Rattle.cip_digraph.specs.graph.SoundGraphs.{IsSound}
use Rattle.cip_digraph.specs.digraph.View.{seen_from}

-- as far as Rule 1a gives the order of two branches within a sphere
abbrev pub order_within : {N : Type 0} → Seen N → ℕ → N → N → Option Decision
order_within seen sphere a b =
    first_decision (λ rule. first_difference (λ depth. rule_1a seen depth a b) 0 sphere) (R1a ∷ [])

-- Rule 1a within a sphere gives all of a root's order
pub record IsToldWithin (seen : Seen Node) (sphere : ℕ) (root : Root Node) : Type 0 where
  pub tie : has_tie root ≡ false
  pub ranks : ranks root ≡ ranked_places (order_within seen sphere) root.ligands
  pub turned_ranks : turned_ranks root ≡ ranked_places (order_within seen sphere) root.ligands
  pub decisions : decisions root ≡ decisions_along (order_within seen sphere) root.ligands
      (ranked_places (order_within seen sphere) root.ligands)

module _ (rules : Rules) (graph : Graph) (positions : List (List ℕ)) (all : List units.Unit) where
  -- a digraph as its root sees it, with the descriptors that are there
  abbrev pub seen_at : ℕ → Seen Node
  seen_at at = seen_from rules graph positions (at ∷ []) (auxiliary rules graph positions all)

  abbrev pub differ_within : End → ℕ → Bool
  differ_within end =
      all_differ (seen_at end.at) (real_node end.at []) (end_root rules graph positions all end).ligands
      (is_in_unit rules graph positions all)

  abbrev pub are_alike_within : End → ℕ → List Node → List Node → Bool
  are_alike_within end =
      are_alike (seen_at end.at) (real_node end.at []) (end_root rules graph positions all end).ligands
      (is_in_unit rules graph positions all)

-- ligands that all differ by Rule 1a within a sphere have the order by all rules that this sphere gives
abbrev pub EarlyOrdersStay : Type 0
EarlyOrdersStay =
    (rules : Rules) (graph : Graph) (positions : List (List ℕ)) (all : List units.Unit) (end : End) (sphere : ℕ) →
    IsSound graph → 1 ≤ sphere → sphere ≤ (seen_at rules graph positions all end.at).height + 1 →
    differ_within rules graph positions all end sphere ≡ true →
    IsToldWithin (seen_at rules graph positions all end.at) sphere (end_root rules graph positions all end)

-- where two ligands are alike within a sphere, two tie by all rules
abbrev pub EarlyTiesStay : Type 0
EarlyTiesStay =
    (rules : Rules) (graph : Graph) (positions : List (List ℕ)) (all : List units.Unit) (end : End) (sphere : ℕ) →
    IsSound graph → end.at < length graph.vertices →
    some_pair (are_alike_within rules graph positions all end sphere) (end_root rules graph positions all end).ligands
    ≡ true →
    has_tie (end_root rules graph positions all end) ≡ true
