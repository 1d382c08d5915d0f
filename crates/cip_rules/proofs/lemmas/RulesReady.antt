-- Each rule leaves pairs ready for the next one: it is taken, or all pairs are decided before.
use Rattle.std.proofs.Common.{◌≡◌, ◌++◌, ◌∷◌, [], ℕ, ℤ, Bool, true, false, List, map, sym, ap, ◌∙◌, subst}
use Rattle.std.specs.declared.cmp.Ordering.{Ordering}
use Rattle.std.specs.List.{AllByRecursion, list_all}
use Rattle.cip_mol.specs.declared.labels.outcome.Rule.{Rule}
use Rattle.cip_digraph.specs.rules.Orders.{Seen}
use Rattle.cip_branches.specs.Deciding.{Branched}
use Rattle.cip_branches.specs.Standing.{AreKeysOf}
use Rattle.cip_digraph.specs.declared.decisions.branch_pair.BranchPair.{BranchPair}
use Rattle.cip_digraph.specs.Asking.{AreWithin, is_decided, with_found}
use Rattle.cip_rules.specs.Deciding.{AreDecidedBy, AreReadyFor}
use Rattle.cip_rules.specs.Orders.{is_keyed, key_by, order_before, order_by, decided_in_turn, rules_before}
use Rattle.cip_rules.specs.Taking.{TakesRule}
use Rattle.cip_rules.proofs.lemmas.RulesGoOn.{none_left, decides_next, goes_on}

module _ {N : Type 0} (seen : Seen N) (r_first : Bool) (named node : ℕ → N) (count : ℕ) (begin : List BranchPair)
    (within : AllByRecursion (AreWithin count) begin) where
  -- a rule was taken
  pub ready_next : (rule next : Rule) → is_keyed rule ≡ true → rules_before next ≡ rules_before rule ++ rule ∷ []
      → order_before seen r_first next ≡ order_by seen r_first rule seen.height → (old now : Branched)
      (pairs new : List BranchPair)
      → AreDecidedBy seen r_first named node count begin (rules_before rule) (order_before seen r_first rule) old pairs
      → (keys : List ℤ) → AreKeysOf named (key_by seen r_first rule) keys old → TakesRule old keys rule pairs now new
      → AreReadyFor seen r_first named node count begin next now new
  ready_next rule next keyed rules order old now pairs new before keys same takes = record {
    noted = decides_next seen r_first named node count begin within (rules_before rule) rule keyed old now pairs new before
        keys same takes
        ∙ ap (λ (refinement : List Rule). map (with_found (decided_in_turn seen r_first refinement node)) begin) (sym rules);
    stands = λ undone.
        subst (λ (refinement : List Rule). AreDecidedBy seen r_first named node count begin refinement
        (order_before seen r_first next) now new) (sym rules)
        (subst (λ (by : N → N → Ordering). AreDecidedBy seen r_first named node count begin
        (rules_before rule ++ rule ∷ []) by now new) (sym order)
        (goes_on seen r_first named node count begin within (rules_before rule) rule keyed old now pairs new before keys
        same takes undone));
  }

  -- all pairs were decided before
  pub ready_early : (rule next : Rule) (more : List Rule) → rules_before next ≡ rules_before rule ++ more
      → (now : Branched) (pairs : List BranchPair) → AreReadyFor seen r_first named node count begin rule now pairs
      → list_all is_decided pairs ≡ true → AreReadyFor seen r_first named node count begin next now pairs
  ready_early rule next more rules now pairs ready done = record {
    noted = none_left seen r_first named node count begin within (rules_before rule) more pairs ready.noted done
        ∙ ap (λ (refinement : List Rule). map (with_found (decided_in_turn seen r_first refinement node)) begin) (sym rules);
    stands = λ undone. let bad : true ≡ false = sym done ∙ undone in cc;
  }
