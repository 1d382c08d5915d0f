-- A node ties with itself by all rules.
use Rattle.std.proofs.Common.{◌≡◌, ◌+◌, ℕ, zero, suc, Bool, List, [], ◌∷◌, refl, ap, ◌∙◌, None, Some}
use Rattle.std.specs.List.{AllByRecursion}
use Rattle.std.specs.declared.option.Option.{Option}
use Rattle.std.specs.declared.cmp.Ordering.{Ordering}
use Rattle.std.specs.declared.cmp.Ordering.TheVariants.{Less, Equal, Greater}
use Rattle.std.proofs.lemmas.Cmp.{tied_itself}
use Rattle.cip_rank.proofs.lemmas.TotalOrder.{comparison_total}
use Rattle.cip_mol.specs.declared.labels.outcome.Rule.{Rule}
use Rattle.cip_mol.specs.declared.labels.outcome.Rule.TheVariants.{R1a, R1b, R2, R3, R4a, R4b, R4c, R5}
use Rattle.cip_digraph.specs.declared.decisions.decision.Decision.{Decision}
use Rattle.cip_digraph.specs.rules.Decisions.{Difference, first_difference, or_else, difference_at, difference_by, first_decision, rules_in_turn, order}
use Rattle.cip_digraph.specs.rules.Orders.{Seen, rule_1a, rule_1b, rule_2, rule_3, rule_4a, higher_reading, lower_reading, rule_4b_higher, rule_4b_lower, rule_4c, rule_5}
use Rattle.cip_digraph.proofs.lemmas.orders.Exchanged.{all_tie_total, total_4a, readings_total}
use Rattle.cip_digraph.proofs.lemmas.ties.Turned.{total_4c}
use Rattle.cip_digraph.proofs.lemmas.orders.Whole.{total_1a, total_1b, total_2, total_3}

picked : ℕ → Option Difference → Ordering → Option Difference
picked start later r = elim r as (λ _. Option Difference) [
  | Less ↦ Some (record { side = Less; depth = start })
  | Equal ↦ later
  | Greater ↦ Some (record { side = Greater; depth = start })
]

none_differs : (compare : ℕ → Ordering) → ((depth : ℕ) → compare depth ≡ Equal) → (count start : ℕ)
    → first_difference compare start count ≡ None
unfolding picked
none_differs compare ties zero start = refl
none_differs compare ties (suc count) start =
    ap (picked start (first_difference compare (start + 1) count)) (ties start)
    ∙ none_differs compare ties count (start + 1)

none_decides : (find : Rule → Option Difference) (rules : List Rule) → AllByRecursion (λ rule. find rule ≡ None) rules
    → first_decision find rules ≡ None
none_decides find [] all = refl
none_decides find (rule ∷ rules) all =
    ap (λ o. elim o as (λ _. Option Decision) [
      | None ↦ first_decision find rules
      | Some found ↦ Some
          (record { side = found.side; rule = rule; sphere = found.depth + 1 })
    ]) all.0
    ∙ none_decides find rules all.1

module _ {N : Type 0} (seen : Seen N) (a : N) where
  tie_1a : (depth : ℕ) → rule_1a seen depth a a ≡ Equal
  unfolding rule_1a
  tie_1a depth = tied_itself (comparison_total seen.children _ (all_tie_total seen) depth) a

  tie_1b : (depth : ℕ) → rule_1b seen depth a a ≡ Equal
  unfolding rule_1b
  tie_1b depth = tied_itself (comparison_total seen.children _ (total_1a seen) depth) a

  tie_2 : (depth : ℕ) → rule_2 seen depth a a ≡ Equal
  unfolding rule_2
  tie_2 depth = tied_itself (comparison_total seen.children _ (total_1b seen) depth) a

  tie_3 : (depth : ℕ) → rule_3 seen depth a a ≡ Equal
  unfolding rule_3
  tie_3 depth = tied_itself (comparison_total seen.children _ (total_2 seen) depth) a

  tie_4a : (depth : ℕ) → rule_4a seen depth a a ≡ Equal
  unfolding rule_4a
  tie_4a depth = tied_itself (comparison_total seen.children _ (total_3 seen) depth) a

  tie_higher : (depth : ℕ) → rule_4b_higher seen depth a a ≡ Equal
  unfolding rule_4b_higher
  tie_higher depth = tied_itself (readings_total seen depth) (higher_reading seen a)

  tie_lower : (depth : ℕ) → rule_4b_lower seen depth a a ≡ Equal
  unfolding rule_4b_lower
  tie_lower depth = tied_itself (readings_total seen depth) (lower_reading seen a)

  tie_4c : (depth : ℕ) → rule_4c seen depth a a ≡ Equal
  unfolding rule_4c
  tie_4c depth = tied_itself (comparison_total seen.children _ (total_4a seen) depth) a

  tie_5 : (r_first : Bool) (depth : ℕ) → rule_5 seen r_first depth a a ≡ Equal
  unfolding rule_5
  tie_5 r_first depth = tied_itself (comparison_total seen.children _ (total_4c seen) depth) a

  by_rule : (r_first : Bool) (rule : Rule) → difference_by seen r_first a a rule ≡ None
  by_rule r_first R1a = none_differs (λ depth. rule_1a seen depth a a) tie_1a (seen.height + 1) 0
  by_rule r_first R1b = none_differs (λ depth. rule_1b seen depth a a) tie_1b (seen.height + 1) 0
  by_rule r_first R2 = none_differs (λ depth. rule_2 seen depth a a) tie_2 (seen.height + 1) 0
  by_rule r_first R3 = none_differs (λ depth. rule_3 seen depth a a) tie_3 (seen.height + 1) 0
  by_rule r_first R4a = none_differs (λ depth. rule_4a seen depth a a) tie_4a (seen.height + 1) 0
  by_rule r_first R4b =
      ap (λ o. or_else o (difference_at seen r_first a a (rule_4b_lower seen)))
      (none_differs (λ depth. rule_4b_higher seen depth a a) tie_higher (seen.height + 1) 0)
      ∙ none_differs (λ depth. rule_4b_lower seen depth a a) tie_lower (seen.height + 1) 0
  by_rule r_first R4c = none_differs (λ depth. rule_4c seen depth a a) tie_4c (seen.height + 1) 0
  by_rule r_first R5 = none_differs (λ depth. rule_5 seen r_first depth a a) (tie_5 r_first) (seen.height + 1) 0

  all_none : (r_first : Bool) (rules : List Rule)
      → AllByRecursion (λ rule. difference_by seen r_first a a rule ≡ None) rules
  all_none r_first [] = tt
  all_none r_first (rule ∷ rules) = (by_rule r_first rule, all_none r_first rules)

  pub order_itself : (r_first : Bool) → order seen r_first a a ≡ None
  unfolding order
  order_itself r_first = none_decides (difference_by seen r_first a a) rules_in_turn (all_none r_first rules_in_turn)
