-- What some rules find in turn, and then others.
use Rattle.std.proofs.Common.{◌≡◌, ◌+◌, List, [], ◌∷◌, ◌++◌, refl, sym, ap, ◌∙◌}
use Rattle.std.specs.Prelude.{None, Some}
use Rattle.std.specs.declared.option.Option.{Option}
use Rattle.cip_mol.specs.declared.labels.outcome.Rule.{Rule}
use Rattle.cip_digraph.specs.rules.Decisions.{Difference, first_decision}
use Rattle.cip_digraph.specs.declared.decisions.decision.Decision.{Decision}
use Rattle.cip_digraph.specs.Asking.{decided, kept_or}
use Rattle.cip_rules.proofs.lemmas.FoundWithin.{kept_kept, kept_none}

pub first_by : (rule : Rule) (found : Option Difference) (later : Option Decision)
    → elim found as (λ _. Option Decision)
    [ None ↦ later | Some f ↦ Some (record { side = f.side; rule = rule; sphere = f.depth + 1 }) ]
    ≡ kept_or (decided rule found) later
first_by rule None later = refl
first_by rule (Some found) later = refl

module _ (find : Rule → Option Difference) where
  pub turn_both : (some others : List Rule)
      → first_decision find (some ++ others) ≡ kept_or (first_decision find some) (first_decision find others)
  turn_both [] others = refl
  turn_both (rule ∷ some) others =
      first_by rule (find rule) (first_decision find (some ++ others))
      ∙ ap (kept_or (decided rule (find rule))) (turn_both some others)
      ∙ sym (kept_kept (decided rule (find rule)) (first_decision find some) (first_decision find others))
      ∙ ap (λ found. kept_or found (first_decision find others))
      (sym (first_by rule (find rule) (first_decision find some)))

  pub turn_one : (rule : Rule) → first_decision find (rule ∷ []) ≡ decided rule (find rule)
  turn_one rule = first_by rule (find rule) None ∙ kept_none (decided rule (find rule))
