-- Turning Rule 5 changes no tie, and neither the rule nor the sphere of a decision.
use Rattle.std.proofs.Common.{◌≡◌, ℕ, zero, suc, ◌+◌, pos, List, [], ◌∷◌, refl, sym, ap, ◌∙◌, Bool, true, false, not}
use Rattle.std.proofs.Common.{cond, arith, None, Some, Option, int_cmp, is_eq, Ordering, Less, Equal, Greater}
use Rattle.std.specs.Cmp.{IsTotalOrder}
use Rattle.cip_rank.proofs.lemmas.RestOnTies.{TiesGo, ties_alone}
use Rattle.cip_rank.proofs.lemmas.TotalOrder.{comparison_total}
use Rattle.cip_mol.specs.declared.labels.descriptor.Descriptor.{Descriptor}
use Rattle.cip_mol.specs.declared.labels.outcome.Rule.{Rule}
use Rattle.cip_mol.specs.declared.labels.outcome.Rule.TheVariants.{R5}
use Rattle.cip_digraph.specs.declared.decisions.decision.Decision.{Decision}
use Rattle.cip_digraph.specs.rules.Decisions.{Difference, first_difference, difference_by, first_decision}
use Rattle.cip_digraph.specs.rules.Decisions.{rules_in_turn, order}
use Rattle.cip_digraph.specs.rules.Kinds.{Kind, KindR, KindS, Neither, kind_of, key_or_zero, capital_by, capital_key}
use Rattle.cip_digraph.specs.rules.Orders.{Seen, rule_4c, rule_5}
use Rattle.cip_digraph.specs.units.Ranked.{Reason, is_tie, reason_of}
use Rattle.cip_digraph.proofs.lemmas.orders.Exchanged.{found_at, total_4a}

abbrev descriptor_kind : Option Descriptor → Kind
descriptor_kind None = Neither
descriptor_kind (Some d) = kind_of d

capital_of : (r_first : Bool) (descriptor : Option Descriptor)
    → key_or_zero (capital_key r_first) descriptor ≡ pos (capital_by r_first (descriptor_kind descriptor))
capital_of true None = refl
capital_of false None = refl
capital_of r_first (Some d) = refl

-- two kinds have equal keys in the one way exactly where they have in the other
tie_kinds : (r_first : Bool) (one other : Kind)
    → int_cmp (pos (capital_by r_first one)) (pos (capital_by r_first other)) ≡ Equal
    → int_cmp (pos (capital_by (not r_first) one)) (pos (capital_by (not r_first) other)) ≡ Equal
tie_kinds true KindR KindR h = refl
tie_kinds true KindS KindS h = refl
tie_kinds r_first one other h = grind arith

tie_descriptors : (r_first : Bool) (one other : Option Descriptor)
    → int_cmp (key_or_zero (capital_key r_first) one) (key_or_zero (capital_key r_first) other) ≡ Equal
    → int_cmp (key_or_zero (capital_key (not r_first)) one) (key_or_zero (capital_key (not r_first)) other) ≡ Equal
tie_descriptors r_first one other h =
    let tie = rw (capital_of r_first one, capital_of r_first other) at h in
    rw (capital_of (not r_first) one, capital_of (not r_first) other)
    (tie_kinds r_first (descriptor_kind one) (descriptor_kind other) tie)

module _ {N : Type 0} (seen : Seen N) where
  pub total_4c : IsTotalOrder (rule_4c seen seen.height)
  unfolding rule_4c
  total_4c = comparison_total seen.children _ (total_4a seen) seen.height

  rule_5_ties : (depth : ℕ)
      → TiesGo (rule_5 seen true depth) (rule_5 seen false depth)
      × TiesGo (rule_5 seen false depth) (rule_5 seen true depth)
  unfolding rule_5
  rule_5_ties depth =
      ties_alone seen.children total_4c total_4c (λ node. key_or_zero (capital_key true) (seen.descriptor node))
      (λ node. key_or_zero (capital_key false) (seen.descriptor node))
      (λ a b h. h) (λ a b h. h) (λ a b h. tie_descriptors true (seen.descriptor a) (seen.descriptor b) h)
      (λ a b h. tie_descriptors false (seen.descriptor a) (seen.descriptor b) h) depth

-- the depth of a difference alone
abbrev depth_of : Option Difference → Option ℕ
depth_of None = None
depth_of (Some found) = Some found.depth

abbrev depth_at : ℕ → Ordering → Option ℕ → Option ℕ
depth_at depth r later = cond (is_eq r) later (Some depth)

found_depth : (depth : ℕ) (later : Option Difference) (r : Ordering)
    → depth_of (found_at depth later r) ≡ depth_at depth r (depth_of later)
found_depth depth later Less = refl
found_depth depth later r = refl

both_equal : (r s : Ordering) → (r ≡ Equal → s ≡ Equal) → (s ≡ Equal → r ≡ Equal) → is_eq r ≡ is_eq s
both_equal Less Less f g = refl
both_equal Less Greater f g = refl
both_equal Greater Less f g = refl
both_equal Greater Greater f g = refl
both_equal Equal s f g = sym (ap is_eq (f refl))
both_equal r Equal f g = ap is_eq (g refl)

same_depth : (one other : ℕ → Ordering) (more depth : ℕ) → ((d : ℕ) → one d ≡ Equal → other d ≡ Equal)
    → ((d : ℕ) → other d ≡ Equal → one d ≡ Equal)
    → depth_of (first_difference one depth more) ≡ depth_of (first_difference other depth more)
same_depth one other zero depth there back = refl
same_depth one other (suc more) depth there back =
    rw (
      found_depth depth (first_difference one (depth + 1) more) (one depth),
      both_equal (one depth) (other depth) (there depth) (back depth),
      same_depth one other more (depth + 1) there back,
    )
    (sym (found_depth depth (first_difference other (depth + 1) more) (other depth)))

abbrev reason_at : Rule → Option ℕ → Option Reason → Option Reason
reason_at rule None later = later
reason_at rule (Some depth) later = Some (record { rule = rule; sphere = depth + 1 })

abbrev pub decided_at : Rule → Option Difference → Option Decision → Option Decision
decided_at rule found later =
    elim found as (λ _. Option Decision) [
      | None ↦ later
      | Some found ↦ Some (record { side = found.side; rule = rule; sphere = found.depth + 1 })
    ]

decided_reason : (rule : Rule) (found : Option Difference) (later : Option Decision)
    → reason_of (decided_at rule found later) ≡ reason_at rule (depth_of found) (reason_of later)
decided_reason rule None later = refl
decided_reason rule (Some found) later = refl

same_reason : (one other : Rule → Option Difference) → ((rule : Rule) → depth_of (one rule) ≡ depth_of (other rule))
    → (rules : List Rule)
    → reason_of (first_decision one rules) ≡ reason_of (first_decision other rules)
same_reason one other same [] = refl
same_reason one other same (rule ∷ rules) =
    rw (decided_reason rule (one rule) (first_decision one rules), same rule, same_reason one other same rules)
    (sym (decided_reason rule (other rule) (first_decision other rules)))

module _ {N : Type 0} (seen : Seen N) (a b : N) where
  turned_depth : (rule : Rule)
      → depth_of (difference_by seen true a b rule) ≡ depth_of (difference_by seen false a b rule)
  turned_depth R5 =
      same_depth (λ d. rule_5 seen true d a b) (λ d. rule_5 seen false d a b) (seen.height + 1) 0
      (λ d h. (rule_5_ties seen d).0 a b h) (λ d h. (rule_5_ties seen d).1 a b h)
  turned_depth rule = refl

  -- with the last rule turned, two branches part by the same rule in the same sphere, or tie alike
  pub turned_reason : reason_of (order seen true a b) ≡ reason_of (order seen false a b)
  unfolding order
  turned_reason = same_reason (difference_by seen true a b) (difference_by seen false a b) turned_depth rules_in_turn

abbrev no_reason : Option Reason → Bool
no_reason None = true
no_reason (Some reason) = false

pub tie_by_reason : (decision : Option Decision) → is_tie decision ≡ no_reason (reason_of decision)
tie_by_reason None = refl
tie_by_reason (Some decision) = refl

pub tie_turned : {N : Type 0} (seen : Seen N) (a b : N) → is_tie (order seen true a b) ≡ is_tie (order seen false a b)
tie_turned seen a b = tie_by_reason (order seen true a b) ∙ ap no_reason (turned_reason seen a b)
    ∙ sym (tie_by_reason (order seen false a b))
