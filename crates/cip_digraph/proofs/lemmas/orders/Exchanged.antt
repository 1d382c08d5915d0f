-- With all descriptors exchanged the rules before the last one decide as before, and the last one is turned.
use Rattle.std.proofs.Common.{◌≡◌, ℕ, zero, suc, ◌+◌, ◌-◌, ◌<◌, ◌≤◌, cond, arith, ℤ, List, [], ◌∷◌, map, refl, sym, ap}
use Rattle.std.proofs.Common.{◌∙◌, subst, Bool, not, Some, Option, is_lt, Ordering, Less, Equal, Greater}
use Rattle.std.specs.Cmp.{IsTotalOrder}
use Rattle.std.specs.List.Sorted.{IsPermutation}
use Rattle.std.specs.Ordering.{ordering_reverse}
use Rattle.std.proofs.lemmas.Cmp.{on_total, nat_cmp_total, tied_itself, alike_right}
use Rattle.std.proofs.lemmas.List.Sorted.{IsPermutation-refl}
use Rattle.cip_rank.specs.Comparison.{comparison}
use Rattle.cip_rank.proofs.lemmas.Embedded.{embedded_comparison}
use Rattle.cip_rank.proofs.lemmas.Refining.{depths_refine}
use Rattle.cip_rank.proofs.lemmas.TotalOrder.{comparison_total}
use Rattle.cip_mol.specs.declared.labels.outcome.Rule.{Rule}
use Rattle.cip_mol.specs.declared.labels.outcome.Rule.TheVariants.{R3, R4a, R4b, R4c, R5}
use Rattle.cip_digraph.specs.rules.Decisions.{Difference, first_difference, or_else, difference_by, first_decision}
use Rattle.cip_digraph.specs.rules.Decisions.{rules_in_turn, order}
use Rattle.cip_digraph.specs.rules.Exchange.{exchanged_descriptor, with_exchanged}
use Rattle.cip_digraph.specs.rules.Kinds.{Kind, KindR, KindS, key_or_zero, geometric_key, chirality_key, like_key, small_key}
use Rattle.cip_digraph.specs.rules.Kinds.{capital_key}
use Rattle.cip_digraph.specs.rules.Orders.{Seen, all_tie, rule_1a, rule_1b, rule_2, rule_3, rule_4a, read_children}
use Rattle.cip_digraph.specs.rules.Orders.{readings, higher_reading, lower_reading, rule_4b_higher, rule_4b_lower}
use Rattle.cip_digraph.specs.rules.Orders.{rule_4c, rule_5}
use Rattle.cip_digraph.proofs.lemmas.orders.ExchangedKeys.{described_same, geometric_stays, chirality_stays, small_stays}
use Rattle.cip_digraph.proofs.lemmas.orders.ExchangedKeys.{capital_turns, other_kind, like_turns}
use Rattle.cip_digraph.proofs.lemmas.lists.Elements.{all_each}

abbrev Any : {N : Type 0} → ℕ → N → Type 0
Any depth node = Unit {0}

-- a tie at a depth is a tie at each lesser one
earlier_by : {N : Type 0} (children : N → List N) (earlier : N → N → Ordering) (key : N → ℤ) (depth more : ℕ) (a b : N)
    → comparison children earlier key (depth + more) a b ≡ Equal → (r : Ordering)
    → comparison children earlier key depth a b ≡ r → r ≡ Equal
earlier_by children earlier key depth more a b tie Less is =
    let h : Less ≡ Equal = sym is
    ∙ sym (depths_refine children earlier key depth more a b (λ e. let bad : Less ≡ Equal = sym is ∙ e in cc))
    ∙ tie in h
earlier_by children earlier key depth more a b tie Equal is = refl
earlier_by children earlier key depth more a b tie Greater is =
    let h : Greater ≡ Equal = sym is
    ∙ sym (depths_refine children earlier key depth more a b (λ e. let bad : Greater ≡ Equal = sym is ∙ e in cc))
    ∙ tie in h

pub earlier_tie : {N : Type 0} (children : N → List N) (earlier : N → N → Ordering) (key : N → ℤ) (depth height : ℕ)
    (a b : N)
    → depth ≤ height → comparison children earlier key height a b ≡ Equal
    → comparison children earlier key depth a b ≡ Equal
earlier_tie children earlier key depth height a b le tie =
    let sum : height ≡ depth + (height - depth) = omega arith in
    earlier_by children earlier key depth (height - depth) a b
    (ap (λ d. comparison children earlier key d a b) (sym sum) ∙ tie) (comparison children earlier key depth a b) refl

abbrev turned_reading : {N : Type 0} → N × Kind → N × Kind
turned_reading branch = (branch.0, other_kind branch.1)

module _ {N : Type 0} (seen : Seen N) where
  pub same_3 : rule_3 (with_exchanged seen) ≡ rule_3 seen
  unfolding rule_1a rule_1b rule_2 rule_3
  same_3 = ap (comparison seen.children (rule_2 seen seen.height))
      (λ i node. described_same geometric_key geometric_key geometric_stays (seen.descriptor node) i)

  pub same_4a : rule_4a (with_exchanged seen) ≡ rule_4a seen
  unfolding rule_4a
  same_4a =
      ap (λ rule. comparison seen.children (rule seen.height)
      (λ node. key_or_zero chirality_key (exchanged_descriptor (seen.descriptor node)))) same_3
      ∙ ap (comparison seen.children (rule_3 seen seen.height))
      (λ i node. described_same chirality_key chirality_key chirality_stays (seen.descriptor node) i)

  pub same_4c : rule_4c (with_exchanged seen) ≡ rule_4c seen
  unfolding rule_4c
  same_4c =
      ap (λ rule. comparison seen.children (rule seen.height)
      (λ node. key_or_zero small_key (exchanged_descriptor (seen.descriptor node)))) same_4a
      ∙ ap (comparison seen.children (rule_4a seen seen.height))
      (λ i node. described_same small_key small_key small_stays (seen.descriptor node) i)

  pub turned_5 : (r_first : Bool) → rule_5 (with_exchanged seen) r_first ≡ rule_5 seen (not r_first)
  unfolding rule_5
  turned_5 r_first =
      ap (λ rule. comparison seen.children (rule seen.height)
      (λ node. key_or_zero (capital_key r_first) (exchanged_descriptor (seen.descriptor node)))) same_4c
      ∙ ap (comparison seen.children (rule_4c seen seen.height))
      (λ i node. described_same (capital_key r_first) (capital_key (not r_first)) (capital_turns r_first)
      (seen.descriptor node) i)

  pub all_tie_total : IsTotalOrder (all_tie {N = N})
  all_tie_total = on_total (λ (node : N). 0) nat_cmp_total

  pub total_4a : IsTotalOrder (rule_4a seen seen.height)
  unfolding rule_1a rule_1b rule_2 rule_3 rule_4a
  total_4a =
      comparison_total seen.children _ (comparison_total seen.children _ (comparison_total seen.children _
      (comparison_total seen.children _
      (comparison_total seen.children _ all_tie_total seen.height)
      seen.height) seen.height) seen.height) seen.height

  pub earlier_total : IsTotalOrder (λ (a b : N × Kind). rule_4a seen seen.height a.0 b.0)
  earlier_total = on_total (λ (branch : N × Kind). branch.0) total_4a

  pub readings_total : (depth : ℕ) → IsTotalOrder (readings seen depth)
  unfolding readings
  readings_total depth =
      comparison_total (read_children seen)
      (λ branch. key_or_zero (like_key branch.1) (seen.descriptor branch.0)) earlier_total depth

  turned_children : (kind : Kind) (nodes : List N)
      → map turned_reading (map {B = N × Kind} (λ node. (node, kind)) nodes)
      ≡ map {B = N × Kind} (λ node. (node, other_kind kind)) nodes
  turned_children kind [] = refl
  turned_children kind (node ∷ nodes) =
      ap {B = List (N × Kind)} (λ others. (node, other_kind kind) ∷ others) (turned_children kind nodes)

  -- a branch with exchanged descriptors, read by a reference, is the branch read by the other one
  turned_readings : (depth : ℕ) (a b : N × Kind)
      → readings seen depth (turned_reading a) (turned_reading b) ≡ readings (with_exchanged seen) depth a b
  unfolding readings
  turned_readings depth a b =
      embedded_comparison turned_reading Any (read_children seen) (read_children seen)
      (λ a b. rule_4a (with_exchanged seen) seen.height a.0 b.0) (λ a b. rule_4a seen seen.height a.0 b.0)
      (λ branch. key_or_zero (like_key branch.1) (exchanged_descriptor (seen.descriptor branch.0)))
      (λ branch. key_or_zero (like_key branch.1) (seen.descriptor branch.0))
      (record {
        moved = λ depth branch _.
            subst (λ others. IsPermutation (map turned_reading (read_children seen branch)) others)
            (turned_children branch.1 (seen.children branch.0))
            (IsPermutation-refl (map turned_reading (read_children seen branch)));
        below = λ depth branch _. all_each (Any depth) (λ _. tt) (read_children seen branch);
        less = λ depth branch _. tt;
        orders = λ a b _ _. ap (λ rule. rule seen.height a.0 b.0) (sym same_4a);
        keys = λ branch _.
            sym (described_same (like_key branch.1) (like_key (other_kind branch.1)) (like_turns branch.1)
            (seen.descriptor branch.0));
      })
      earlier_total depth a b tt tt

  tie_before : (depth : ℕ) (a b : N × Kind) → depth ≤ seen.height → readings seen seen.height a b ≡ Equal
      → readings seen depth a b ≡ Equal
  unfolding readings
  tie_before depth a b le tie = earlier_tie (read_children seen) _ _ depth seen.height a b le tie

  -- by how the readings of a branch compare, and how they compare the other way round
  module _ (depth : ℕ) (le : depth ≤ seen.height) (node : N) where
    higher_by : (x y : Ordering) → readings seen seen.height (node, KindR) (node, KindS) ≡ x → y ≡ ordering_reverse x
        → readings seen depth (node, other_kind (cond (is_lt y) KindS KindR)) (node, cond (is_lt x) KindS KindR) ≡ Equal
    higher_by Less y is e = rw e (tied_itself (readings_total depth) (node, KindS))
    higher_by Equal y is e = rw e (back_tie (tie_before depth (node, KindR) (node, KindS) le is))
      where
        back_tie : readings seen depth (node, KindR) (node, KindS) ≡ Equal
            → readings seen depth (node, KindS) (node, KindR) ≡ Equal
        back_tie tie = (readings_total depth).antisymm (node, KindS) (node, KindR) ∙ ap ordering_reverse tie
    higher_by Greater y is e = rw e (tied_itself (readings_total depth) (node, KindR))

    lower_by : (x y : Ordering) → readings seen seen.height (node, KindR) (node, KindS) ≡ x → y ≡ ordering_reverse x
        → readings seen depth (node, other_kind (cond (is_lt y) KindR KindS)) (node, cond (is_lt x) KindR KindS) ≡ Equal
    lower_by Less y is e = rw e (tied_itself (readings_total depth) (node, KindR))
    lower_by Equal y is e = rw e (tie_before depth (node, KindR) (node, KindS) le is)
    lower_by Greater y is e = rw e (tied_itself (readings_total depth) (node, KindS))

    other_way : readings seen seen.height (node, KindS) (node, KindR)
        ≡ ordering_reverse (readings seen seen.height (node, KindR) (node, KindS))
    other_way = (readings_total seen.height).antisymm (node, KindS) (node, KindR)

    higher_tie : readings seen depth (turned_reading (higher_reading (with_exchanged seen) node))
        (higher_reading seen node) ≡ Equal
    higher_tie =
        ap (λ q. readings seen depth (node, other_kind (cond (is_lt q) KindS KindR)) (higher_reading seen node))
        (sym (turned_readings seen.height (node, KindR) (node, KindS)))
        ∙ higher_by (readings seen seen.height (node, KindR) (node, KindS))
        (readings seen seen.height (node, KindS) (node, KindR)) refl other_way

    lower_tie : readings seen depth (turned_reading (lower_reading (with_exchanged seen) node))
        (lower_reading seen node) ≡ Equal
    lower_tie =
        ap (λ q. readings seen depth (node, other_kind (cond (is_lt q) KindR KindS)) (lower_reading seen node))
        (sym (turned_readings seen.height (node, KindR) (node, KindS)))
        ∙ lower_by (readings seen seen.height (node, KindR) (node, KindS))
        (readings seen seen.height (node, KindS) (node, KindR)) refl other_way

  -- readings that tie pairwise compare alike
  stand_alike : (depth : ℕ) (a b turned_a turned_b : N × Kind) → readings seen depth turned_a a ≡ Equal
      → readings seen depth turned_b b ≡ Equal
      → readings seen depth turned_a turned_b ≡ readings seen depth a b
  stand_alike depth a b turned_a turned_b tie_a tie_b =
      (readings_total depth).congr turned_a a turned_b tie_a ∙ alike_right (readings_total depth) turned_b b a tie_b

  pub same_4b_higher : (depth : ℕ) (a b : N) → depth ≤ seen.height
      → rule_4b_higher (with_exchanged seen) depth a b ≡ rule_4b_higher seen depth a b
  unfolding rule_4b_higher
  same_4b_higher depth a b le =
      sym (turned_readings depth (higher_reading (with_exchanged seen) a) (higher_reading (with_exchanged seen) b))
      ∙ stand_alike depth (higher_reading seen a) (higher_reading seen b)
      (turned_reading (higher_reading (with_exchanged seen) a))
      (turned_reading (higher_reading (with_exchanged seen) b))
      (higher_tie depth le a) (higher_tie depth le b)

  pub same_4b_lower : (depth : ℕ) (a b : N) → depth ≤ seen.height
      → rule_4b_lower (with_exchanged seen) depth a b ≡ rule_4b_lower seen depth a b
  unfolding rule_4b_lower
  same_4b_lower depth a b le =
      sym (turned_readings depth (lower_reading (with_exchanged seen) a) (lower_reading (with_exchanged seen) b))
      ∙ stand_alike depth (lower_reading seen a) (lower_reading seen b)
      (turned_reading (lower_reading (with_exchanged seen) a)) (turned_reading (lower_reading (with_exchanged seen) b))
      (lower_tie depth le a) (lower_tie depth le b)

abbrev pub found_at : ℕ → Option Difference → Ordering → Option Difference
found_at depth later r =
    elim r as (λ _. Option Difference) [
      | Less ↦ Some (record { side = Less; depth = depth })
      | Equal ↦ later
      | Greater ↦ Some (record { side = Greater; depth = depth })
    ]

-- two comparisons that are alike at all depths that are looked at differ first at the same one
same_first : (compare other : ℕ → Ordering) (more depth : ℕ) → ((d : ℕ) → d < depth + more → compare d ≡ other d)
    → first_difference compare depth more ≡ first_difference other depth more
same_first compare other zero depth h = refl
same_first compare other (suc more) depth h =
    ap (found_at depth (first_difference compare (depth + 1) more)) (h depth (omega arith))
    ∙ ap (λ later. found_at depth later (other depth))
    (same_first compare other more (depth + 1) (λ d lt. h d (omega arith)))

module _ {N : Type 0} (seen : Seen N) (r_first : Bool) (a b : N) where
  abbrev looked : (ℕ → N → N → Ordering) → Option Difference
  looked rule = first_difference (λ depth. rule depth a b) 0 (seen.height + 1)

  same_difference : (rule : Rule)
      → difference_by (with_exchanged seen) r_first a b rule ≡ difference_by seen (not r_first) a b rule
  unfolding rule_1a rule_1b rule_2
  same_difference R3 = ap looked (same_3 seen)
  same_difference R4a = ap looked (same_4a seen)
  same_difference R4b =
      ap (λ found. or_else found (looked (rule_4b_lower (with_exchanged seen))))
      (same_first _ _ (seen.height + 1) 0 (λ depth lt. same_4b_higher seen depth a b (omega arith)))
      ∙ ap (or_else (looked (rule_4b_higher seen)))
      (same_first _ _ (seen.height + 1) 0 (λ depth lt. same_4b_lower seen depth a b (omega arith)))
  same_difference R4c = ap looked (same_4c seen)
  same_difference R5 = ap looked (turned_5 seen r_first)
  same_difference rule = refl

  pub order_turned : order (with_exchanged seen) r_first a b ≡ order seen (not r_first) a b
  unfolding order
  order_turned = ap (λ find. first_decision find rules_in_turn) (λ i rule. same_difference rule i)
