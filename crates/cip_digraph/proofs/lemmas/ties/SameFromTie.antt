-- Branches that no rule distinguishes are the same.
use Rattle.std.proofs.Common.{◌≡◌, ℕ, zero, suc, ◌+◌, ℤ, pos, List, [], ◌∷◌, refl, sym, ap, ◌∙◌, cond, true, arith}
use Rattle.std.proofs.Common.{None, Some, Option, int_cmp, int_eq, Ordering, Equal}
use Rattle.std.specs.List.{AllByRecursion}
use Rattle.std.proofs.lemmas.Cmp.{int_ranked}
use Rattle.cip_rank.specs.Comparison.{comparison}
use Rattle.cip_rank.specs.Matching.{AreAlike}
use Rattle.cip_rank.specs.Matching as matching
use Rattle.cip_rank.proofs.lemmas.MatchingBranches.{match_from_tie, pairs_by}
use Rattle.cip_rank.proofs.lemmas.RestOnTies.{both_tie}
use Rattle.cip_mol.specs.declared.labels.descriptor.Descriptor.{Descriptor}
use Rattle.cip_mol.specs.declared.labels.descriptor.Descriptor.TheVariants.{R}
use Rattle.cip_mol.specs.declared.labels.outcome.Rule.{Rule}
use Rattle.cip_mol.specs.declared.labels.outcome.Rule.TheVariants.{R5}
use Rattle.cip_digraph.specs.declared.decisions.decision.Decision.{Decision}
use Rattle.cip_digraph.specs.rules.Decisions.{Difference, difference_by, first_decision, rules_in_turn, order}
use Rattle.cip_digraph.specs.rules.Kinds.{key_or_zero, geometric_key, small_key, capital_key}
use Rattle.cip_digraph.specs.rules.Orders.{Seen, all_tie, rule_1a, rule_1b, rule_2, rule_3, rule_4a, rule_4c, rule_5}
use Rattle.cip_digraph.specs.digraph.SameBranch.{Class, ClassR, ClassS, ClassSmallR, ClassSmallS, ClassZ, ClassE}
use Rattle.cip_digraph.specs.digraph.SameBranch.{NoDescriptor, class_of, AreSameNodes, SameWithin, SameBranch}
use Rattle.cip_digraph.proofs.lemmas.orders.Exchanged.{earlier_tie}
use Rattle.cip_digraph.proofs.lemmas.ties.Turned.{decided_at, total_4c}
use Rattle.cip_digraph.proofs.lemmas.orders.Whole.{side_at, five_side}

-- the class by the keys of Rules 3, 4c and 5
abbrev class_from : ℤ → ℤ → ℤ → Class
class_from geometric small capital =
    cond (int_eq geometric (pos 2)) ClassZ (cond (int_eq geometric (pos 1)) ClassE
    (cond (int_eq capital (pos 2)) ClassR (cond (int_eq capital (pos 1)) ClassS
    (cond (int_eq small (pos 2)) ClassSmallR (cond (int_eq small (pos 1)) ClassSmallS NoDescriptor)))))

class_by_keys : (descriptor : Option Descriptor)
    → class_of descriptor ≡ class_from (key_or_zero geometric_key descriptor) (key_or_zero small_key descriptor) (key_or_zero (capital_key true) descriptor)
class_by_keys (Some R) = refl
class_by_keys descriptor = refl

pub same_number : (x y : ℤ) → int_cmp x y ≡ Equal → x ≡ y
same_number x y e = int_ranked x y Equal (sym e)

-- a tie at a depth is one in the earlier order and by the key
pub parts_of : {N : Type 0} (children : N → List N) (earlier : N → N → Ordering) (key : N → ℤ) (depth : ℕ) (a b : N)
    → comparison children earlier key depth a b ≡ Equal → (earlier a b ≡ Equal) × (key a ≡ key b)
unfolding comparison
parts_of children earlier key depth a b h =
    let t = both_tie (earlier a b) (int_cmp (key a) (key b))
    (earlier_tie children earlier key 0 depth a b (omega arith) h) in
    (t.0, same_number (key a) (key b) t.1)

both_none : (rule : Rule) (found : Option Difference) (later : Option Decision) → decided_at rule found later ≡ None
    → (found ≡ None) × (later ≡ None)
both_none rule None later e = (refl, e)
both_none rule (Some found) later e =
    let bad : Some (record { side = found.side; rule = rule; sphere = found.depth + 1 }) ≡ None = e in cc

all_none : (find : Rule → Option Difference) (rules : List Rule) → first_decision find rules ≡ None
    → AllByRecursion (λ rule. find rule ≡ None) rules
all_none find [] e = tt
all_none find (rule ∷ rules) e = let t = both_none rule (find rule) (first_decision find rules) e in
    (t.0, all_none find rules t.1)

module _ {N : Type 0} (seen : Seen N) where
  nodes_alike : (a b : N)
      → AreAlike (rule_4c seen seen.height) (λ node. key_or_zero (capital_key true) (seen.descriptor node)) a b
      → AreSameNodes seen a b
  unfolding rule_1a rule_1b rule_2 rule_3 rule_4a rule_4c
  nodes_alike a b h =
      let by_4c = parts_of seen.children (rule_4a seen seen.height)
      (λ node. key_or_zero small_key (seen.descriptor node)) seen.height a b h.0 in
      let by_4a = parts_of seen.children (rule_3 seen seen.height) _ seen.height a b by_4c.0 in
      let by_3 = parts_of seen.children (rule_2 seen seen.height)
      (λ node. key_or_zero geometric_key (seen.descriptor node)) seen.height a b by_4a.0 in
      let by_2 = parts_of seen.children (rule_1b seen seen.height) seen.mass seen.height a b by_3.0 in
      let by_1b = parts_of seen.children (rule_1a seen seen.height) seen.distance seen.height a b by_2.0 in
      let by_1a = parts_of seen.children all_tie seen.atomic seen.height a b by_1b.0 in
      let capital : key_or_zero (capital_key true) (seen.descriptor a) ≡ key_or_zero (capital_key true) (seen.descriptor b) =
      same_number _ _ h.1 in
      record {
        atomic = by_1a.1;
        distance = by_1b.1;
        mass = by_2.1;
        class =
            rw (class_by_keys (seen.descriptor a), by_3.1, by_4c.1, capital) (sym (class_by_keys (seen.descriptor b)));
      }

  same_within : (spheres : ℕ) (a b : N)
      → matching.SameBranch seen.children (rule_4c seen seen.height)
      (λ node. key_or_zero (capital_key true) (seen.descriptor node)) spheres a b → SameWithin seen spheres a b
  same_within zero a b h = nodes_alike a b h
  same_within (suc spheres) a b h = (
    nodes_alike a b h.0,
    record {
      one = h.1.one;
      other = h.1.other;
      of_one = h.1.of_one;
      of_other = h.1.of_other;
      pairs = pairs_by (same_within spheres) h.1.one h.1.other h.1.pairs;
    },
  )

  tied_by_five : (a b : N) → order seen true a b ≡ None → rule_5 seen true seen.height a b ≡ Equal
  unfolding order
  tied_by_five a b e =
      let none : difference_by seen true a b R5 ≡ None =
      (all_none (difference_by seen true a b) rules_in_turn e).1.1.1.1.1.1.1.0 in
      sym (five_side seen true a b) ∙ ap side_at none

  pub same_from_tie : (a b : N) → order seen true a b ≡ None → SameBranch seen a b
  unfolding rule_5
  same_from_tie a b e =
      same_within seen.height a b
      (match_from_tie seen.children (total_4c seen)
      (λ node. key_or_zero (capital_key true) (seen.descriptor node)) seen.height a b (tied_by_five a b e))
