-- The order by all rules is an order with ties.
use Rattle.std.proofs.Common.{◌≡◌, ◌≢◌, ℕ, zero, suc, ◌+◌, List, [], ◌∷◌, refl, sym, ap, ◌∙◌, subst, Bool, arith, None}
use Rattle.std.proofs.Common.{Some, Option, Ordering, Less, Equal, Greater}
use Rattle.std.specs.Cmp.{IsTotalOrder}
use Rattle.std.specs.Ordering.{ordering_then}
use Rattle.std.proofs.lemmas.Cmp.{on_total, then_total}
use Rattle.cip_rank.proofs.lemmas.Refining.{depths_refine}
use Rattle.cip_rank.proofs.lemmas.TotalOrder.{comparison_total}
use Rattle.cip_mol.specs.declared.labels.outcome.Rule.{Rule}
use Rattle.cip_mol.specs.declared.labels.outcome.Rule.TheVariants.{R1a, R1b, R2, R3, R4a, R4b, R4c, R5}
use Rattle.cip_digraph.specs.declared.decisions.decision.Decision.{Decision}
use Rattle.cip_digraph.specs.rules.Decisions.{Difference, first_difference, or_else, difference_at, difference_by}
use Rattle.cip_digraph.specs.rules.Decisions.{first_decision, rules_in_turn, order}
use Rattle.cip_digraph.specs.rules.Orders.{Seen, rule_1a, rule_1b, rule_2, rule_3, rule_4a, read_children, readings}
use Rattle.cip_digraph.specs.rules.Orders.{higher_reading, lower_reading, rule_4b_higher, rule_4b_lower, rule_4c}
use Rattle.cip_digraph.specs.rules.Orders.{rule_5}
use Rattle.cip_digraph.specs.units.Ranked.{side_of}
use Rattle.cip_digraph.proofs.lemmas.orders.Exchanged.{found_at, all_tie_total, total_4a, readings_total}
use Rattle.cip_digraph.proofs.lemmas.ties.Turned.{decided_at, total_4c}

abbrev pub side_at : Option Difference → Ordering
side_at None = Equal
side_at (Some found) = found.side

-- a difference that was found is one
abbrev pub IsOne : Option Difference → Type 0
IsOne None = Unit {0}
IsOne (Some found) = found.side ≢ Equal

found_is_one : (depth : ℕ) (later : Option Difference) (r : Ordering) → IsOne later → IsOne (found_at depth later r)
found_is_one depth later Less h = λ e. let bad : Less ≡ Equal = e in cc
found_is_one depth later Equal h = h
found_is_one depth later Greater h = λ e. let bad : Greater ≡ Equal = e in cc

pub first_is_one : (compare : ℕ → Ordering) (more depth : ℕ) → IsOne (first_difference compare depth more)
first_is_one compare zero depth = tt
first_is_one compare (suc more) depth =
    found_is_one depth (first_difference compare (depth + 1) more) (compare depth)
    (first_is_one compare more (depth + 1))

-- what is decided at a depth stays decided
abbrev pub Refines : (ℕ → Ordering) → Type 0
Refines compare = (depth more : ℕ) → compare depth ≢ Equal → compare (depth + more) ≡ compare depth

found_side : (depth : ℕ) (later : Option Difference) (last r : Ordering) → (r ≢ Equal → last ≡ r)
    → (r ≡ Equal → side_at later ≡ last)
    → side_at (found_at depth later r) ≡ last
found_side depth later last Less stays rest = sym (stays (λ e. let bad : Less ≡ Equal = e in cc))
found_side depth later last Equal stays rest = rest refl
found_side depth later last Greater stays rest = sym (stays (λ e. let bad : Greater ≡ Equal = e in cc))

-- the first difference is the one that the last depth shows
pub first_side : (compare : ℕ → Ordering) → Refines compare → (more depth : ℕ)
    → side_at (first_difference compare depth (suc more)) ≡ compare (depth + more)
first_side compare refines zero depth =
    let same : depth + 0 ≡ depth = omega arith in
    found_side depth None (compare (depth + 0)) (compare depth) (λ n. refines depth 0 n)
    (λ tie. sym (ap compare same ∙ tie))
first_side compare refines (suc more) depth =
    let next : depth + 1 + more ≡ depth + suc more = omega arith in
    found_side depth (first_difference compare (depth + 1) (suc more)) (compare (depth + suc more)) (compare depth)
    (λ n. refines depth (suc more) n) (λ tie. first_side compare refines more (depth + 1) ∙ ap compare next)

first_stays : (r s : Ordering) → r ≢ Equal → r ≡ ordering_then r s
first_stays Less s n = refl
first_stays Equal s n = absurd (n refl)
first_stays Greater s n = refl

else_side : (one other : Option Difference) → IsOne one
    → side_at (or_else one other) ≡ ordering_then (side_at one) (side_at other)
else_side None other h = refl
else_side (Some found) other h = first_stays found.side (side_at other) h

else_is_one : (one other : Option Difference) → IsOne one → IsOne other → IsOne (or_else one other)
else_is_one None other h k = k
else_is_one (Some found) other h k = h

decided_side : (rule : Rule) (found : Option Difference) (later : Option Decision) → IsOne found
    → side_of (decided_at rule found later) ≡ ordering_then (side_at found) (side_of later)
decided_side rule None later h = refl
decided_side rule (Some found) later h = first_stays found.side (side_of later) h

module _ {N : Type 0} (seen : Seen N) where
  look_side : (rule : ℕ → N → N → Ordering) → ((a b : N) → Refines (λ depth. rule depth a b))
      → (r_first : Bool) (a b : N)
      → side_at (difference_at seen r_first a b rule) ≡ rule seen.height a b
  look_side rule refines r_first a b =
      let sum : seen.height + 1 ≡ suc seen.height = omega arith in
      let last : 0 + seen.height ≡ seen.height = omega arith in
      ap (λ more. side_at (first_difference (λ depth. rule depth a b) 0 more)) sum
      ∙ first_side (λ depth. rule depth a b) (refines a b) seen.height 0
      ∙ ap (λ depth. rule depth a b) last

  looked_total : (rule : ℕ → N → N → Ordering) → ((a b : N) → Refines (λ depth. rule depth a b)) → (r_first : Bool)
      → IsTotalOrder (rule seen.height)
      → IsTotalOrder (λ a b. side_at (difference_at seen r_first a b rule))
  looked_total rule refines r_first total =
      subst IsTotalOrder (λ i a b. sym (look_side rule refines r_first a b) i) total

  pub total_1a : IsTotalOrder (rule_1a seen seen.height)
  unfolding rule_1a
  total_1a = comparison_total seen.children _ (all_tie_total seen) seen.height

  pub total_1b : IsTotalOrder (rule_1b seen seen.height)
  unfolding rule_1b
  total_1b = comparison_total seen.children _ total_1a seen.height

  pub total_2 : IsTotalOrder (rule_2 seen seen.height)
  unfolding rule_2
  total_2 = comparison_total seen.children _ total_1b seen.height

  pub total_3 : IsTotalOrder (rule_3 seen seen.height)
  unfolding rule_3
  total_3 = comparison_total seen.children _ total_2 seen.height

  total_5 : (r_first : Bool) → IsTotalOrder (rule_5 seen r_first seen.height)
  unfolding rule_5
  total_5 r_first = comparison_total seen.children _ (total_4c seen) seen.height

  total_higher : IsTotalOrder (rule_4b_higher seen seen.height)
  unfolding rule_4b_higher
  total_higher = on_total (higher_reading seen) (readings_total seen seen.height)

  total_lower : IsTotalOrder (rule_4b_lower seen seen.height)
  unfolding rule_4b_lower
  total_lower = on_total (lower_reading seen) (readings_total seen seen.height)

  abbrev side_by : Bool → Rule → N → N → Ordering
  side_by r_first rule a b = side_at (difference_by seen r_first a b rule)

  higher_refines : (a b : N) → Refines (λ depth. rule_4b_higher seen depth a b)
  unfolding rule_4b_higher readings
  higher_refines a b depth more n =
      depths_refine (read_children seen) _ _ depth more (higher_reading seen a) (higher_reading seen b) n

  lower_refines : (a b : N) → Refines (λ depth. rule_4b_lower seen depth a b)
  unfolding rule_4b_lower readings
  lower_refines a b depth more n =
      depths_refine (read_children seen) _ _ depth more (lower_reading seen a) (lower_reading seen b) n

  rule_total : (r_first : Bool) (rule : Rule) → IsTotalOrder (side_by r_first rule)
  unfolding rule_1a rule_1b rule_2 rule_3 rule_4a rule_4c rule_5
  rule_total r_first R1a =
      looked_total (rule_1a seen)
      (λ a b depth more n. depths_refine seen.children _ _ depth more a b n) r_first total_1a
  rule_total r_first R1b =
      looked_total (rule_1b seen)
      (λ a b depth more n. depths_refine seen.children _ _ depth more a b n) r_first total_1b
  rule_total r_first R2 =
      looked_total (rule_2 seen) (λ a b depth more n. depths_refine seen.children _ _ depth more a b n) r_first total_2
  rule_total r_first R3 =
      looked_total (rule_3 seen) (λ a b depth more n. depths_refine seen.children _ _ depth more a b n) r_first total_3
  rule_total r_first R4a =
      looked_total (rule_4a seen) (λ a b depth more n. depths_refine seen.children _ _ depth more a b n) r_first
      (total_4a seen)
  rule_total r_first R4b =
      subst IsTotalOrder
      (λ i a b. sym
      (else_side (difference_at seen r_first a b (rule_4b_higher seen)) (difference_at seen r_first a b (rule_4b_lower seen))
      (first_is_one (λ depth. rule_4b_higher seen depth a b) (seen.height + 1) 0)) i)
      (then_total (looked_total (rule_4b_higher seen) higher_refines r_first total_higher)
      (looked_total (rule_4b_lower seen) lower_refines r_first total_lower))
  rule_total r_first R4c =
      looked_total (rule_4c seen) (λ a b depth more n. depths_refine seen.children _ _ depth more a b n) r_first
      (total_4c seen)
  rule_total r_first R5 =
      looked_total (rule_5 seen r_first) (λ a b depth more n. depths_refine seen.children _ _ depth more a b n) r_first
      (total_5 r_first)

  pub rule_is_one : (r_first : Bool) (a b : N) (rule : Rule) → IsOne (difference_by seen r_first a b rule)
  rule_is_one r_first a b R4b =
      else_is_one _ _ (first_is_one _ (seen.height + 1) 0) (first_is_one _ (seen.height + 1) 0)
  rule_is_one r_first a b rule = first_is_one _ (seen.height + 1) 0

  rules_total : (r_first : Bool) (rules : List Rule)
      → IsTotalOrder (λ a b. side_of (first_decision (difference_by seen r_first a b) rules))
  rules_total r_first [] = all_tie_total seen
  rules_total r_first (rule ∷ rules) =
      subst IsTotalOrder
      (λ i a b. sym
      (decided_side rule (difference_by seen r_first a b rule)
      (first_decision (difference_by seen r_first a b) rules) (rule_is_one r_first a b rule)) i)
      (then_total (rule_total r_first rule) (rules_total r_first rules))

  pub order_total : (r_first : Bool) → IsTotalOrder (λ a b. side_of (order seen r_first a b))
  unfolding order
  order_total r_first = rules_total r_first rules_in_turn

  pub five_side : (r_first : Bool) (a b : N)
      → side_at (difference_by seen r_first a b R5) ≡ rule_5 seen r_first seen.height a b
  unfolding rule_5
  five_side r_first a b =
      look_side (rule_5 seen r_first) (λ a b depth more n. depths_refine seen.children _ _ depth more a b n) r_first a b
