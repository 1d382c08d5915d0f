-- The order by all rules decides the same between two branches whichever of them is asked about first, and where the
-- last rule doesn't decide, turning it changes nothing.
use Rattle.std.proofs.Common.{◌≡◌, ◌≢◌, ℕ, zero, suc, ◌+◌, Bool, true, false, List, [], ◌∷◌, ◌++◌, None, Some, refl}
use Rattle.std.proofs.Common.{sym, ap, ◌∙◌, Option, Ordering, Less, Equal, Greater}
use Rattle.std.specs.List.{AllByRecursion}
use Rattle.std.specs.Ordering.{ordering_reverse}
use Rattle.std.proofs.lemmas.Cmp.{on_total}
use Rattle.cip_rank.proofs.lemmas.TotalOrder.{comparison_total}
use Rattle.cip_mol.specs.declared.labels.outcome.Rule.{Rule}
use Rattle.cip_mol.specs.declared.labels.outcome.Rule.TheVariants.{R1a, R1b, R2, R3, R4a, R4b, R4c, R5}
use Rattle.cip_digraph.specs.declared.decisions.decision.Decision.{Decision}
use Rattle.cip_digraph.specs.rules.Decisions.{Difference, first_difference, or_else, difference_by, first_decision}
use Rattle.cip_digraph.specs.rules.Decisions.{rules_in_turn, order}
use Rattle.cip_digraph.specs.rules.Orders.{Seen, rule_1a, rule_1b, rule_2, rule_3, rule_4a, higher_reading}
use Rattle.cip_digraph.specs.rules.Orders.{lower_reading, rule_4b_higher, rule_4b_lower, rule_4c, rule_5}
use Rattle.cip_digraph.proofs.lemmas.orders.Exchanged.{found_at, all_tie_total, total_4a, readings_total}
use Rattle.cip_digraph.proofs.lemmas.ties.Turned.{decided_at, total_4c}
use Rattle.cip_digraph.proofs.lemmas.orders.Whole.{total_1a, total_1b, total_2, total_3}
use Rattle.cip_label.specs.BranchComparison.{reversed}

abbrev reversed_difference : Option Difference → Option Difference
reversed_difference None = None
reversed_difference (Some found) = Some (record found { side = ordering_reverse found.side })

found_reversed : (depth : ℕ) (later : Option Difference) (side : Ordering)
    → reversed_difference (found_at depth later side)
    ≡ found_at depth (reversed_difference later) (ordering_reverse side)
found_reversed depth later Less = refl
found_reversed depth later Equal = refl
found_reversed depth later Greater = refl

-- comparisons that are opposite at each depth differ first at the same one
first_reversed : (one other : ℕ → Ordering) → ((d : ℕ) → one d ≡ ordering_reverse (other d)) → (more depth : ℕ)
    → reversed_difference (first_difference other depth more) ≡ first_difference one depth more
first_reversed one other opposite zero depth = refl
first_reversed one other opposite (suc more) depth =
    found_reversed depth (first_difference other (depth + 1) more) (other depth)
    ∙ ap (λ later. found_at depth later (ordering_reverse (other depth)))
    (first_reversed one other opposite more (depth + 1))
    ∙ ap (found_at depth (first_difference one (depth + 1) more)) (sym (opposite depth))

else_reversed : (one other : Option Difference)
    → reversed_difference (or_else one other) ≡ or_else (reversed_difference one) (reversed_difference other)
else_reversed None other = refl
else_reversed (Some found) other = refl

decided_reversed : (rule : Rule) (found : Option Difference) (later : Option Decision)
    → reversed (decided_at rule found later) ≡ decided_at rule (reversed_difference found) (reversed later)
decided_reversed rule None later = refl
decided_reversed rule (Some found) later = refl

all_reversed : (one other : Rule → Option Difference) → ((rule : Rule) → reversed_difference (other rule) ≡ one rule)
    → (rules : List Rule) → reversed (first_decision other rules) ≡ first_decision one rules
all_reversed one other opposite [] = refl
all_reversed one other opposite (rule ∷ rules) =
    decided_reversed rule (other rule) (first_decision other rules)
    ∙ (λ k. decided_at rule (opposite rule k) (all_reversed one other opposite rules k))

module _ {N : Type 0} (seen : Seen N) (r_first : Bool) (a b : N) where
  looked : (compare : ℕ → N → N → Ordering) → ((depth : ℕ) → compare depth a b ≡ ordering_reverse (compare depth b a))
      → reversed_difference (first_difference (λ depth. compare depth b a) 0 (seen.height + 1))
      ≡ first_difference (λ depth. compare depth a b) 0 (seen.height + 1)
  looked compare opposite =
      first_reversed (λ depth. compare depth a b) (λ depth. compare depth b a) opposite (seen.height + 1) 0

  higher : (depth : ℕ) → rule_4b_higher seen depth a b ≡ ordering_reverse (rule_4b_higher seen depth b a)
  unfolding rule_4b_higher
  higher depth = (on_total (higher_reading seen) (readings_total seen depth)).antisymm a b

  lower : (depth : ℕ) → rule_4b_lower seen depth a b ≡ ordering_reverse (rule_4b_lower seen depth b a)
  unfolding rule_4b_lower
  lower depth = (on_total (lower_reading seen) (readings_total seen depth)).antisymm a b

  by_rule : (rule : Rule) → reversed_difference (difference_by seen r_first b a rule)
      ≡ difference_by seen r_first a b rule
  unfolding rule_1a rule_1b rule_2 rule_3 rule_4a rule_4c rule_5
  by_rule R1a =
      looked (rule_1a seen) (λ depth. (comparison_total seen.children _ (all_tie_total seen) depth).antisymm a b)
  by_rule R1b = looked (rule_1b seen) (λ depth. (comparison_total seen.children _ (total_1a seen) depth).antisymm a b)
  by_rule R2 = looked (rule_2 seen) (λ depth. (comparison_total seen.children _ (total_1b seen) depth).antisymm a b)
  by_rule R3 = looked (rule_3 seen) (λ depth. (comparison_total seen.children _ (total_2 seen) depth).antisymm a b)
  by_rule R4a = looked (rule_4a seen) (λ depth. (comparison_total seen.children _ (total_3 seen) depth).antisymm a b)
  by_rule R4b =
      else_reversed (first_difference (λ depth. rule_4b_higher seen depth b a) 0 (seen.height + 1))
      (first_difference (λ depth. rule_4b_lower seen depth b a) 0 (seen.height + 1))
      ∙ (λ k. or_else (looked (rule_4b_higher seen) higher k) (looked (rule_4b_lower seen) lower k))
  by_rule R4c = looked (rule_4c seen) (λ depth. (comparison_total seen.children _ (total_4a seen) depth).antisymm a b)
  by_rule R5 =
      looked (rule_5 seen r_first) (λ depth. (comparison_total seen.children _ (total_4c seen) depth).antisymm a b)

  pub order_reversed : reversed (order seen r_first b a) ≡ order seen r_first a b
  unfolding order
  order_reversed = all_reversed (difference_by seen r_first a b) (difference_by seen r_first b a) by_rule rules_in_turn

-- what rules decide that find the same, whatever the last one finds
module _ (one other : Rule → Option Difference) (found : Decision) (early : found.rule ≢ R5) where
  only_last : (last : Option Difference) → decided_at R5 last None ≡ Some found
      → first_decision other (R5 ∷ []) ≡ Some found
  only_last None e = let bad : None ≡ Some found = e in cc
  only_last (Some difference) e = absurd (early (by e))
    where
      by : decided_at R5 (Some difference) None ≡ Some found → found.rule ≡ R5
      by e =
          let same : Some (record { side = difference.side; rule = R5; sphere = difference.depth + 1 }) ≡ Some found
          = e in
          let is : record { side = difference.side; rule = R5; sphere = difference.depth + 1 } ≡ found = cc in
          ap (λ (decision : Decision). decision.rule) (sym is)

  next_early : (rule : Rule) (difference : Option Difference) (later others : Option Decision)
      → (later ≡ Some found → others ≡ Some found) → decided_at rule difference later ≡ Some found
      → decided_at rule difference others ≡ Some found
  next_early rule None later others go e = go e
  next_early rule (Some difference) later others go e = e

  decided_early : (rules : List Rule) → AllByRecursion (λ rule. one rule ≡ other rule) rules
      → first_decision one (rules ++ R5 ∷ []) ≡ Some found → first_decision other (rules ++ R5 ∷ []) ≡ Some found
  decided_early [] same e = only_last (one R5) e
  decided_early (rule ∷ rules) same e =
      ap (λ difference. decided_at rule difference (first_decision other (rules ++ R5 ∷ []))) (sym same.0)
      ∙ next_early rule (one rule) (first_decision one (rules ++ R5 ∷ []))
      (first_decision other (rules ++ R5 ∷ [])) (decided_early rules same.1) e

-- what an earlier rule decides stays with the last one turned
pub order_early : {N : Type 0} (seen : Seen N) (a b : N) (found : Decision) → found.rule ≢ R5
    → order seen true a b ≡ Some found → order seen false a b ≡ Some found
unfolding order
order_early seen a b found early =
    decided_early (difference_by seen true a b) (difference_by seen false a b) found early
    (R1a ∷ R1b ∷ R2 ∷ R3 ∷ R4a ∷ R4b ∷ R4c ∷ []) (refl, (refl, (refl, (refl, (refl, (refl, (refl, tt)))))))
