-- Rules in turn over the same branches: each goes on from what the one before left, and what they decide is what the
-- definitions decide.
use Rattle.std.proofs.Common.{◌≡◌, ◌<◌, ◌≤◌, ◌+◌, ◌-◌, ◌++◌, ◌∷◌, [], ℕ, ℤ, Bool, true, false, List, length, map, refl, sym, ap, ◌∙◌, subst, arith, inl, inr}
use Rattle.std.specs.declared.cmp.Ordering.{Ordering}
use Rattle.std.specs.List.{AllByRecursion, list_all}
use Rattle.std.proofs.lemmas.Bool.{cases_lt}
use Rattle.cip_rank.specs.Ranking.{by_number}
use Rattle.cip_mol.specs.declared.labels.outcome.Rule.{Rule}
use Rattle.cip_mol.specs.declared.labels.outcome.Rule.TheVariants.{R1a}
use Rattle.cip_digraph.specs.rules.Decisions.{difference_by, rules_in_turn, order}
use Rattle.cip_digraph.specs.rules.Orders.{Seen, all_tie, rule_1a}
use Rattle.cip_digraph.proofs.lemmas.orders.Exchanged.{all_tie_total}
use Rattle.cip_branches.specs.Deciding.{Branched, AreDecided}
use Rattle.cip_branches.specs.Standing.{node_in, WantedIn, AreKeysOf, StandsBy}
use Rattle.cip_branches.specs.Views.{IsEnded}
use Rattle.cip_branches.proofs.lemmas.taken.Rules.{followed_taken, rule_stands}
use Rattle.cip_digraph.specs.declared.decisions.branch_pair.BranchPair.{BranchPair}
use Rattle.cip_digraph.specs.Asking.{AreWithin, is_decided, decided, kept_or, with_found}
use Rattle.cip_rules.specs.Orders.{is_keyed}
use Rattle.cip_rules.proofs.lemmas.FoundWithin.{with_both, all_stay, same_found, all_within}
use Rattle.cip_rules.proofs.lemmas.RulesInTurn.{turn_both, turn_one}
use Rattle.cip_rules.specs.Deciding.{AreDecidedBy}
use Rattle.cip_rules.specs.Orders.{key_by, order_before, order_by, decided_by, decided_in_turn, found_below}
use Rattle.cip_rules.specs.Taking.{TakesRule}
use Rattle.cip_rules.proofs.lemmas.FoundAmong.{found_rest}
use Rattle.cip_rules.proofs.lemmas.RulesFound.{compare_is, rule_decided, rule_left, nodes_left, tops_left, end_left, ends_left, keys_left}

-- a rule that didn't decide all pairs was taken to the last sphere
pub reached_unless_done : (begin : Branched) (keys : List ℤ) (rule : Rule) (pairs new : List BranchPair) (now : Branched)
    (takes : TakesRule begin keys rule pairs now new) → list_all is_decided new ≡ false → takes.far ≡ begin.last
reached_unless_done begin keys rule pairs new now takes undone = elim (cases_lt takes.far begin.last) [
  | inl early ↦ let bad : true ≡ false = sym (takes.early early) ∙ undone in cc
  | inr done ↦ let within = takes.within in omega (arith, done, within)
]

module _ {N : Type 0} (seen : Seen N) (r_first : Bool) (named node : ℕ → N) (count : ℕ) (begin : List BranchPair)
    (within : AllByRecursion (AreWithin count) begin) where
  -- where all pairs are decided, further rules decide no more
  pub none_left : (rules more : List Rule) (pairs : List BranchPair)
      → pairs ≡ map (with_found (decided_in_turn seen r_first rules node)) begin
      → list_all is_decided pairs ≡ true
      → pairs ≡ map (with_found (decided_in_turn seen r_first (rules ++ more) node)) begin
  none_left rules more pairs noted done =
      sym (all_stay (decided_in_turn seen r_first more node) pairs done)
      ∙ ap (map (with_found (decided_in_turn seen r_first more node))) noted
      ∙ with_both (decided_in_turn seen r_first rules node) (decided_in_turn seen r_first more node)
      (decided_in_turn seen r_first (rules ++ more) node) (AreWithin count)
      (λ one w. sym (turn_both (difference_by seen r_first (node one.first) (node one.second)) rules more)) begin within

  -- by all rules it is the order of the branches
  pub order_is : (a b : ℕ) → decided_in_turn seen r_first rules_in_turn node a b ≡ order seen r_first (node a) (node b)
  unfolding order
  order_is a b = refl

  pub order_told : (rules more : List Rule) → rules ++ more ≡ rules_in_turn → (pairs : List BranchPair)
      → pairs ≡ map (with_found (decided_in_turn seen r_first rules node)) begin → list_all is_decided pairs ≡ true
      → pairs ≡ map (with_found (λ a b. order seen r_first (node a) (node b))) begin
  order_told rules more all pairs noted done =
      none_left rules more pairs noted done
      ∙ ap (λ (refinement : List Rule). map (with_found (decided_in_turn seen r_first refinement node)) begin) all
      ∙ same_found (decided_in_turn seen r_first rules_in_turn node) (λ a b. order seen r_first (node a) (node b))
      (AreWithin count) (λ one w. order_is one.first one.second) begin within

  one_more : (rules : List Rule) (rule : Rule) (a b : ℕ)
      → kept_or (decided_in_turn seen r_first rules node a b) (decided_by seen r_first rule node a b)
      ≡ decided_in_turn seen r_first (rules ++ rule ∷ []) node a b
  one_more rules rule a b =
      let find = difference_by seen r_first (node a) (node b) in
      ap (kept_or (decided_in_turn seen r_first rules node a b)) (sym (turn_one find rule))
      ∙ sym (turn_both find rules (rule ∷ []))

  -- what a further rule decides, of keys or not
  pub found_next : (rules : List Rule) (rule : Rule) (pairs new : List BranchPair)
      → pairs ≡ map (with_found (decided_in_turn seen r_first rules node)) begin
      → new ≡ map (with_found (decided_by seen r_first rule node)) pairs
      → new ≡ map (with_found (decided_in_turn seen r_first (rules ++ rule ∷ []) node)) begin
  found_next rules rule pairs new noted found =
      found ∙ ap (map (with_found (decided_by seen r_first rule node))) noted
      ∙ with_both (decided_in_turn seen r_first rules node) (decided_by seen r_first rule node)
      (decided_in_turn seen r_first (rules ++ rule ∷ []) node) (AreWithin count)
      (λ one w. one_more rules rule one.first one.second) begin within

  module _ (rules : List Rule) (rule : Rule) (is : is_keyed rule ≡ true) (old now : Branched) (pairs new : List BranchPair)
      (before : AreDecidedBy seen r_first named node count begin rules (order_before seen r_first rule) old pairs)
      (keys : List ℤ) (same : AreKeysOf named (key_by seen r_first rule) keys old)
      (takes : TakesRule old keys rule pairs now new) where
    asked_within : AllByRecursion (AreWithin (length old.unresolved)) pairs
    asked_within = subst (AllByRecursion (AreWithin (length old.unresolved))) (sym before.noted)
        (all_within (decided_in_turn seen r_first rules node) (length old.unresolved) begin
        (subst (λ n. AllByRecursion (AreWithin n) begin) (sym before.tops) within))

    by_nodes : (a b : ℕ) → decided_by seen r_first rule (node_in named old) a b ≡ decided_by seen r_first rule node a b
    by_nodes a b =
        ap (λ n. decided rule (difference_by seen r_first n (node_in named old b) rule)) (before.nodes a)
        ∙ ap (λ n. decided rule (difference_by seen r_first (node a) n rule)) (before.nodes b)

    -- pairs are decided by one rule more
    pub decides_next : new ≡ map (with_found (decided_in_turn seen r_first (rules ++ rule ∷ []) node)) begin
    decides_next = found_next rules rule pairs new before.noted
        (rule_decided seen r_first rule is named old before.stands before.ended keys same pairs new now takes before.tall
        asked_within
        ∙ same_found (decided_by seen r_first rule (node_in named old)) (decided_by seen r_first rule node)
        (AreWithin (length old.unresolved)) (λ one w. by_nodes one.first one.second) pairs asked_within)

    -- keys of a later rule are known still
    pub keys_stay : (key : N → ℤ) (others : List ℤ) → AreKeysOf named key others old → AreKeysOf named key others now
    keys_stay key others keyed = keys_left seen r_first rule is named old before.stands before.ended keys same pairs new
        now takes before.tall key others keyed

    -- and where one is undecided, the next rule goes on
    pub goes_on : list_all is_decided new ≡ false
        → AreDecidedBy seen r_first named node count begin (rules ++ rule ∷ []) (order_by seen r_first rule seen.height)
        now new
    goes_on undone =
        let reached = reached_unless_done old keys rule pairs new now takes undone in
        let last = end_left seen r_first rule is named old before.stands before.ended keys same pairs new now takes
        before.tall in
        let tall = before.tall in
        record {
          stands = rule_left seen r_first rule is named old before.stands before.ended keys same pairs new now takes
              before.tall reached;
          ended = ends_left seen r_first rule is named old before.stands before.ended keys same pairs new now takes
              before.tall;
          tall = omega (arith, last, tall);
          nodes = λ a. nodes_left seen r_first rule is named old before.stands before.ended keys same pairs new now takes
              before.tall a ∙ before.nodes a;
          tops = tops_left seen r_first rule is named old before.stands before.ended keys same pairs new now takes
              before.tall ∙ before.tops;
          noted = decides_next;
        }

  -- Rule 1a was followed until the branches ended, and noted at each depth
  module _ (now : Branched) (decided_now : AreDecided seen.children all_tie seen.atomic named now)
      (ends : IsEnded seen.children (node_in named now) (WantedIn now) now.last) (high : now.last ≤ seen.height)
      (nodes_are : (a : ℕ) → node_in named now a ≡ node a) (tops_are : length now.unresolved ≡ count) where
    stands_at : (depth : ℕ) → now.last ≤ depth → StandsBy seen.children named (rule_1a seen depth) now
    stands_at depth le = subst (λ (by : N → N → Ordering). StandsBy seen.children named by now)
        (compare_is seen r_first R1a refl depth)
        (rule_stands seen.children named all_tie (all_tie_total seen) seen.atomic now ends
        (followed_taken seen.children named all_tie (all_tie_total seen) seen.atomic now decided_now) depth le)

    tell : (depth a b : ℕ) → now.last ≤ depth → a < count → b < count
        → by_number now.layers.ranked.numbers a b ≡ rule_1a seen depth (node a) (node b)
    tell depth a b le la lb =
        let stands = stands_at depth le in
        stands.tops.node_data a b (omega (arith, la, tops_are)) (omega (arith, lb, tops_are))
        ∙ ap (λ n. rule_1a seen depth n (node_in named now b)) (nodes_are a)
        ∙ ap (rule_1a seen depth (node a)) (nodes_are b)

    pub first_decides : (pairs : List BranchPair)
        → pairs ≡ map (with_found (found_below R1a (rule_1a seen) node (now.last + 1))) begin
        → AreDecidedBy seen r_first named node count begin (R1a ∷ []) (rule_1a seen seen.height) now pairs
    first_decides pairs noted = record {
      stands = stands_at seen.height high;
      ended = ends;
      tall = high;
      nodes = nodes_are;
      tops = tops_are;
      noted = noted ∙ same_found (found_below R1a (rule_1a seen) node (now.last + 1))
          (decided_in_turn seen r_first (R1a ∷ []) node) (AreWithin count)
          (λ one w. found_rest R1a (λ depth. rule_1a seen depth (node one.first) (node one.second)) now.last seen.height
          high (λ m le. sym (tell m one.first one.second (omega (arith, le)) w.0 w.1)
          ∙ tell (now.last + 1 - 1) one.first one.second (omega arith) w.0 w.1)
          ∙ sym (turn_one (difference_by seen r_first (node one.first) (node one.second)) R1a)) begin within;
    }
