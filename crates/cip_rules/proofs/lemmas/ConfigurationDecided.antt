-- Rules that look at descriptors in turn: what some of them decide and then others is what they all decide.
use Rattle.std.proofs.Common.{◌≡◌, ◌++◌, ◌∷◌, [], ℕ, Bool, true, false, List, map, refl, ◌∙◌}
use Rattle.std.specs.declared.option.Option.{Option}
use Rattle.std.specs.List.{AllByRecursion, list_all}
use Rattle.cip_mol.specs.declared.labels.descriptor.Descriptor.{Descriptor}
use Rattle.cip_mol.specs.declared.labels.outcome.Rule.{Rule}
use Rattle.cip_mol.specs.declared.labels.outcome.Rule.TheVariants.{R4b, R4c, R5}
use Rattle.cip_digraph.specs.digraph.Digraph.{Node}
use Rattle.cip_digraph.specs.rules.Decisions.{rules_in_turn, order}
use Rattle.cip_digraph.specs.rules.Orders.{Seen, rule_4a}
use Rattle.cip_branches.specs.Deciding.{Branched}
use Rattle.cip_digraph.specs.declared.decisions.branch_pair.BranchPair.{BranchPair}
use Rattle.cip_digraph.specs.Asking.{AreWithin, is_decided, with_found}
use Rattle.cip_rules.specs.Configuring.{DecidesOn}
use Rattle.cip_rules.specs.Counting.{AppliesDescriptorRule}
use Rattle.cip_rules.specs.Deciding.{AreDecidedBy, AreReadyFor}
use Rattle.cip_rules.specs.DescriptorMap.{AreDescriptorsOf}
use Rattle.cip_rules.specs.Orders.{is_keyed, key_by, key_of_descriptor, order_before, order_by, decided_by, decided_in_turn, rules_before}
use Rattle.cip_rules.specs.Taking.{WantsNoMore}
use Rattle.cip_rules.proofs.lemmas.FoundWithin.{same_found}
use Rattle.cip_rules.proofs.lemmas.DescriptorPlaces.{keys_by_taken, descriptors_stay}
use Rattle.cip_rules.proofs.lemmas.RulesGoOn.{decides_next, order_told, found_next, order_is}
use Rattle.cip_rules.proofs.lemmas.RulesReady.{ready_next, ready_early}

module _ (descriptors : List (Option Descriptor)) where
  -- one rule
  pub decides_one : (rule next : Rule) → is_keyed rule ≡ true → rules_before next ≡ rules_before rule ++ rule ∷ []
      → ((seen : Seen Node) → order_before seen true next ≡ order_by seen true rule seen.height)
      → ((seen : Seen Node) (node : Node) → key_of_descriptor true rule (seen.descriptor node) ≡ key_by seen true rule node)
      → (old now : Branched) (pairs new : List BranchPair)
      → AppliesDescriptorRule descriptors true rule old pairs now new → DecidesOn descriptors rule next old pairs now new
  decides_one rule next keyed rules same key old now pairs new takes = record {
    each = λ seen named node count begin within before known.
        ready_next seen true named node count begin within rule next keyed rules (same seen) old now pairs new before
        takes.keys (keys_by_taken named descriptors seen true rule (key seen) old now pairs new known takes) takes.takes;
  }

  -- some rules, which leave a pair undecided, and then others
  pub decides_more : (one two three : Rule) (old mid now : Branched) (pairs half new : List BranchPair)
      → DecidesOn descriptors one two old pairs mid half → list_all is_decided half ≡ false
      → mid.layers.place_tree ≡ old.layers.place_tree → WantsNoMore old mid → DecidesOn descriptors two three mid half now new
      → DecidesOn descriptors one three old pairs now new
  decides_more one two three old mid now pairs half new first undone place_tree fewer second = record {
    each = λ seen named node count begin within before known.
        second.each seen named node count begin within
        ((first.each seen named node count begin within before known).stands undone)
        (descriptors_stay named descriptors seen.descriptor old mid place_tree fewer known);
  }

  -- where all pairs are decided, others decide no more
  pub decides_early : (one two three : Rule) (more : List Rule) → rules_before three ≡ rules_before two ++ more
      → (old now : Branched) (pairs new : List BranchPair) → DecidesOn descriptors one two old pairs now new
      → list_all is_decided new ≡ true → DecidesOn descriptors one three old pairs now new
  decides_early one two three more rules old now pairs new first done = record {
    each = λ seen named node count begin within before known.
        ready_early seen true named node count begin within two three more rules now new
        (first.each seen named node count begin within before known) done;
  }

  -- Rule 4b, of which each pair that is undecided is asked; the order stays
  pub decides_by_readings : (now : Branched) (pairs new : List BranchPair)
      → ((seen : Seen Node) (named node : ℕ → Node) (count : ℕ) (begin : List BranchPair) (rules : List Rule)
      → AllByRecursion (AreWithin count) begin
      → AreDecidedBy seen true named node count begin rules (rule_4a seen seen.height) now pairs
      → AreDescriptorsOf named seen.descriptor descriptors now → new ≡ map (with_found (decided_by seen true R4b node)) pairs)
      → DecidesOn descriptors R4b R4c now pairs now new
  decides_by_readings now pairs new found = record {
    each = λ seen named node count begin within before known.
        let noted = found_next seen true named node count begin within (rules_before R4b) R4b pairs new before.noted
        (found seen named node count begin (rules_before R4b) within before known) in
        record {
          noted = noted;
          stands = λ undone. record {
            stands = before.stands;
            ended = before.ended;
            tall = before.tall;
            nodes = before.nodes;
            tops = before.tops;
            noted = noted;
          };
        };
  }

module _ (descriptors : List (Option Descriptor)) (seen : Seen Node) (named node : ℕ → Node) (count : ℕ) (begin : List BranchPair)
    (within : AllByRecursion (AreWithin count) begin) where
  -- no rule before the last one asks which kind has precedence
  either : (r_first : Bool) (now : Branched) (pairs : List BranchPair)
      → AreDecidedBy seen true named node count begin (rules_before R5) (order_before seen true R5) now pairs
      → AreDecidedBy seen r_first named node count begin (rules_before R5) (order_before seen r_first R5) now pairs
  either r_first now pairs before = record {
    stands = before.stands;
    ended = before.ended;
    tall = before.tall;
    nodes = before.nodes;
    tops = before.tops;
    noted = before.noted;
  }

  -- the last rule, either way
  pub last_decides : (r_first : Bool) (old now : Branched) (pairs new : List BranchPair)
      → AreDecidedBy seen true named node count begin (rules_before R5) (order_before seen true R5) old pairs
      → AreDescriptorsOf named seen.descriptor descriptors old → AppliesDescriptorRule descriptors r_first R5 old pairs now new
      → new ≡ map (with_found (λ a b. order seen r_first (node a) (node b))) begin
  last_decides r_first old now pairs new before known takes =
      decides_next seen r_first named node count begin within (rules_before R5) R5 refl old now pairs new
      (either r_first old pairs before) takes.keys
      (keys_by_taken named descriptors seen r_first R5 (λ n. refl) old now pairs new known takes) takes.takes
      ∙ same_found (decided_in_turn seen r_first rules_in_turn node) (λ a b. order seen r_first (node a) (node b))
      (AreWithin count) (λ one w. order_is seen r_first named node count begin within one.first one.second) begin within

  -- all pairs were decided before it
  pub decided_before : (r_first : Bool) (now : Branched) (pairs : List BranchPair)
      → AreReadyFor seen true named node count begin R5 now pairs → list_all is_decided pairs ≡ true
      → pairs ≡ map (with_found (λ a b. order seen r_first (node a) (node b))) begin
  decided_before r_first now pairs ready done =
      order_told seen r_first named node count begin within (rules_before R5) (R5 ∷ []) refl pairs ready.noted done
