-- Pairs of ligands say how these turn a sense where all are decided.
use Rattle.std.proofs.Common.{◌≡◌, ◌∙◌, ◌||◌, ◌&&◌, Bool, true, false, not, List, [], ◌∷◌, map, None, Some, count_by, refl, ap}
use Rattle.std.specs.List.{list_all, list_any}
use Rattle.std.specs.Option.{is_some}
use Rattle.std.specs.declared.option.Option.{Option}
use Rattle.cip_digraph.specs.declared.decisions.decision.Decision.{Decision}
use Rattle.cip_digraph.specs.units.Descriptors.{is_odd}
use Rattle.cip_digraph.specs.declared.decisions.parity.Parity.{Parity}
use Rattle.cip_digraph.specs.Sides.{found_side, is_below, is_tied}
use Rattle.cip_digraph.specs.TurnsOf.{turns_of}
use Rattle.cip_digraph.specs.Asking.{is_decided}
use Rattle.cip_digraph.specs.declared.decisions.branch_pair.BranchPair.{BranchPair}
use Rattle.cip_aux.specs.Turning.{side_at}

tied_pairs : (pairs : List BranchPair) → list_any is_tied (map side_at pairs) ≡ not (list_all is_decided pairs)
tied_pairs [] = refl
tied_pairs (pair ∷ pairs) = by pair.decision (tied_pairs pairs)
  where
    by : (found : Option Decision) → list_any is_tied (map side_at pairs) ≡ not (list_all is_decided pairs)
        → (is_tied (found_side found) || list_any is_tied (map side_at pairs))
        ≡ not (is_some found && list_all is_decided pairs)
    by None e = refl
    by (Some decision) e = e

module _ (pairs turned : List BranchPair) where
  abbrev both : Parity
  both = record {
    natural = is_odd (count_by is_below (map side_at pairs));
    turned = is_odd (count_by is_below (map side_at turned));
  }

  turns_by : (all : Bool) → list_all is_decided pairs ≡ all → turns_of (map side_at pairs) (map side_at turned)
      ≡ elim all as (λ _. Option Parity) [ true ↦ Some both | false ↦ None ]
  turns_by true e = ap (λ tie. elim tie as (λ _. Option Parity) [ true ↦ None | false ↦ Some both ])
      (tied_pairs pairs ∙ ap not e)
  turns_by false e = ap (λ tie. elim tie as (λ _. Option Parity) [ true ↦ None | false ↦ Some both ])
      (tied_pairs pairs ∙ ap not e)

  pub open_turns : list_all is_decided pairs ≡ false → turns_of (map side_at pairs) (map side_at turned) ≡ None
  open_turns e = turns_by false e

  pub decided_turns : list_all is_decided pairs ≡ true → turns_of (map side_at pairs) (map side_at turned) ≡ Some both
  decided_turns e = turns_by true e
