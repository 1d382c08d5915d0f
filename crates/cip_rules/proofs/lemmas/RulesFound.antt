-- What each rule of keys decides between branches is what the definitions decide.
use Rattle.std.proofs.Common.{◌≡◌, ◌+◌, ◌≤◌, ℕ, ℤ, Bool, true, false, List, length, map, refl, sym, ap, ◌∙◌, subst}
use Rattle.std.specs.declared.cmp.Ordering.{Ordering}
use Rattle.std.specs.Cmp.{IsTotalOrder}
use Rattle.std.specs.List.{AllByRecursion}
use Rattle.cip_rank.specs.Comparison.{comparison}
use Rattle.cip_mol.specs.declared.labels.outcome.Rule.{Rule}
use Rattle.cip_mol.specs.declared.labels.outcome.Rule.TheVariants.{R1a, R1b, R2, R3, R4a, R4b, R4c, R5}
use Rattle.cip_digraph.specs.rules.Decisions.{first_difference, difference_by}
use Rattle.cip_digraph.specs.rules.Orders.{Seen, rule_1a, rule_1b, rule_2, rule_3, rule_4a, rule_4c, rule_5}
use Rattle.cip_digraph.proofs.lemmas.orders.Exchanged.{all_tie_total, total_4a}
use Rattle.cip_digraph.proofs.lemmas.ties.Turned.{total_4c}
use Rattle.cip_digraph.proofs.lemmas.orders.Whole.{total_1a, total_1b, total_2, total_3}
use Rattle.cip_branches.specs.Deciding.{Branched}
use Rattle.cip_branches.specs.Standing.{node_in, WantedIn, AreKeysOf, StandsBy}
use Rattle.cip_branches.specs.Views.{IsEnded}
use Rattle.cip_digraph.specs.declared.decisions.branch_pair.BranchPair.{BranchPair}
use Rattle.cip_digraph.specs.Asking.{AreWithin, decided, with_found}
use Rattle.cip_rules.specs.Orders.{is_keyed}
use Rattle.cip_rules.proofs.lemmas.FoundWithin.{same_found}
use Rattle.cip_rules.proofs.lemmas.FoundWithin.{same_difference}
use Rattle.cip_rules.specs.Orders.{key_by, order_before, order_by, decided_by}
use Rattle.cip_rules.specs.Taking.{TakesRule}
use Rattle.cip_rules.proofs.lemmas.FoundRules.{rule_found, stands_after, same_nodes, same_count, same_end, ends_after, keys_after}

module _ {N : Type 0} (seen : Seen N) (r_first : Bool) where
  total_before : (rule : Rule) → IsTotalOrder (order_before seen r_first rule)
  total_before R1a = all_tie_total seen
  total_before R1b = total_1a seen
  total_before R2 = total_1b seen
  total_before R3 = total_2 seen
  total_before R4a = total_3 seen
  total_before R4b = total_4a seen
  total_before R4c = total_4a seen
  total_before R5 = total_4c seen

  pub compare_is : (rule : Rule) → is_keyed rule ≡ true → (depth : ℕ)
      → comparison seen.children (order_before seen r_first rule) (key_by seen r_first rule) depth
      ≡ order_by seen r_first rule depth
  unfolding rule_1a rule_1b rule_2 rule_3 rule_4a rule_4c rule_5
  compare_is R1a k depth = refl
  compare_is R1b k depth = refl
  compare_is R2 k depth = refl
  compare_is R3 k depth = refl
  compare_is R4a k depth = refl
  compare_is R4b k depth = let bad : false ≡ true = k in cc
  compare_is R4c k depth = refl
  compare_is R5 k depth = refl

  difference_is : (rule : Rule) (a b : N) → is_keyed rule ≡ true
      → difference_by seen r_first a b rule
      ≡ first_difference (λ depth. order_by seen r_first rule depth a b) 0 (seen.height + 1)
  difference_is R1a a b k = refl
  difference_is R1b a b k = refl
  difference_is R2 a b k = refl
  difference_is R3 a b k = refl
  difference_is R4a a b k = refl
  difference_is R4b a b k = let bad : false ≡ true = k in cc
  difference_is R4c a b k = refl
  difference_is R5 a b k = refl

  module _ (rule : Rule) (is : is_keyed rule ≡ true) (named : ℕ → N) (begin : Branched)
      (stands : StandsBy seen.children named (order_before seen r_first rule) begin)
      (ends : IsEnded seen.children (node_in named begin) (WantedIn begin) begin.last)
      (keys : List ℤ) (same : AreKeysOf named (key_by seen r_first rule) keys begin)
      (pairs new : List BranchPair) (now : Branched) (takes : TakesRule begin keys rule pairs now new)
      (tall : begin.last ≤ seen.height) where
    abbrev compare : ℕ → N → N → Ordering
    compare depth = comparison seen.children (order_before seen r_first rule) (key_by seen r_first rule) depth

    abbrev node : ℕ → N
    node = node_in named begin

    -- pairs are decided as the rule decides between their nodes
    pub rule_decided : AllByRecursion (AreWithin (length begin.unresolved)) pairs
        → new ≡ map (with_found (decided_by seen r_first rule node)) pairs
    rule_decided within =
        rule_found seen.children named (order_before seen r_first rule) (total_before rule) (key_by seen r_first rule)
        begin stands ends keys same rule pairs new now takes seen.height tall within
        ∙ same_found (λ a b. decided rule (first_difference (λ depth. compare depth (node a) (node b)) 0
        (seen.height + 1))) (decided_by seen r_first rule node) (AreWithin (length begin.unresolved))
        (λ one w. ap (decided rule) (same_difference (λ depth. compare depth (node one.first) (node one.second))
        (λ depth. order_by seen r_first rule depth (node one.first) (node one.second))
        (λ depth. ap (λ (order : N → N → Ordering). order (node one.first) (node one.second))
        (compare_is rule is depth)) 0 (seen.height + 1)
        ∙ sym (difference_is rule (node one.first) (node one.second) is))) pairs within

    -- and where the last sphere was reached, the next rule goes on from there
    pub rule_left : takes.far ≡ begin.last
        → StandsBy seen.children named (order_by seen r_first rule seen.height) now
    rule_left reached = subst (λ (order : N → N → Ordering). StandsBy seen.children named order now)
        (compare_is rule is seen.height)
        (stands_after seen.children named (order_before seen r_first rule) (total_before rule)
        (key_by seen r_first rule) begin stands ends keys same rule pairs new now takes seen.height tall reached)

    -- the same branches of the same nodes, to the same end
    pub nodes_left : (a : ℕ) → node_in named now a ≡ node a
    nodes_left a = same_nodes seen.children named (order_before seen r_first rule) (total_before rule)
        (key_by seen r_first rule) begin stands ends keys same rule pairs new now takes seen.height tall a

    pub tops_left : length now.unresolved ≡ length begin.unresolved
    tops_left = same_count seen.children named (order_before seen r_first rule) (total_before rule)
        (key_by seen r_first rule) begin stands ends keys same rule pairs new now takes seen.height tall

    pub end_left : now.last ≡ begin.last
    end_left = same_end seen.children named (order_before seen r_first rule) (total_before rule)
        (key_by seen r_first rule) begin stands ends keys same rule pairs new now takes seen.height tall

    pub ends_left : IsEnded seen.children (node_in named now) (WantedIn now) now.last
    ends_left = ends_after seen.children named (order_before seen r_first rule) (total_before rule)
        (key_by seen r_first rule) begin stands ends keys same rule pairs new now takes seen.height tall

    pub keys_left : (other : N → ℤ) (others : List ℤ) → AreKeysOf named other others begin
        → AreKeysOf named other others now
    keys_left other others keyed = keys_after seen.children named (order_before seen r_first rule) (total_before rule)
        (key_by seen r_first rule) begin stands ends keys same rule pairs new now takes seen.height tall other others
        keyed
