-- What holds of all rules that are taken over branches. Own.
use Rattle.std.specs.Prelude.{◌≡◌, ◌≤◌, ◌+◌, ◌++◌, ◌∷◌, [], ℕ, ℤ, Bool, true, false, List, length, map}
use Rattle.std.specs.List.{AllByRecursion, list_all}
use Rattle.cip_mol.specs.declared.labels.outcome.Rule.{Rule}
use Rattle.cip_mol.specs.declared.labels.outcome.Rule.TheVariants.{R1a}
use Rattle.cip_digraph.specs.digraph.Digraph.{Node}
use Rattle.cip_digraph.specs.rules.Decisions.{rules_in_turn, order}
use Rattle.cip_digraph.specs.rules.Orders.{Seen, all_tie, rule_1a}
use Rattle.cip_branches.specs.Deciding.{Branched, AreDecided}
use Rattle.cip_branches.specs.Standing.{node_in, WantedIn, AreKeysOf}
use Rattle.cip_branches.specs.Views.{IsEnded}
use Rattle.cip_digraph.specs.declared.decisions.branch_pair.BranchPair.{BranchPair}
use Rattle.cip_digraph.specs.Asking.{AreWithin, is_decided, with_found}
use Rattle.cip_rules.specs.Orders.{is_keyed}
use Rattle.cip_rules.specs.Deciding.{AreDecidedBy}
use Rattle.cip_rules.specs.Orders.{key_by, order_before, order_by, decided_in_turn, found_below}
use Rattle.cip_rules.specs.Taking.{TakesRule}

-- After Rule 1a, which was followed until the branches ended, pairs are decided by it.
abbrev pub Rule1aDecides : Type 0
Rule1aDecides = (seen : Seen Node) (r_first : Bool) (named node : ℕ → Node) (count : ℕ) (begin pairs : List BranchPair)
    (now : Branched) →
    AllByRecursion (AreWithin count) begin → AreDecided seen.children all_tie seen.atomic named now
    → IsEnded seen.children (node_in named now) (WantedIn now) now.last → now.last ≤ seen.height
    → ((a : ℕ) → node_in named now a ≡ node a) → length now.unresolved ≡ count
    → pairs ≡ map (with_found (found_below R1a (rule_1a seen) node (now.last + 1))) begin
    → AreDecidedBy seen r_first named node count begin (R1a ∷ []) (rule_1a seen seen.height) now pairs

-- After each further rule they are decided by it too, and where one isn't, the next one goes on from the numbers. Its
-- keys are then known where they were known before.
abbrev pub RulesGoOn : Type 0
RulesGoOn = (seen : Seen Node) (r_first : Bool) (named node : ℕ → Node) (count : ℕ) (begin pairs new : List BranchPair)
    (rules : List Rule) (rule : Rule) (old now : Branched) (keys : List ℤ) →
    AllByRecursion (AreWithin count) begin → is_keyed rule ≡ true
    → AreDecidedBy seen r_first named node count begin rules (order_before seen r_first rule) old pairs
    → AreKeysOf named (key_by seen r_first rule) keys old → TakesRule old keys rule pairs now new
    → (new ≡ map (with_found (decided_in_turn seen r_first (rules ++ rule ∷ []) node)) begin)
    × (list_all is_decided new ≡ false → AreDecidedBy seen r_first named node count begin (rules ++ rule ∷ [])
    (order_by seen r_first rule seen.height) now new)
    × ((key : Node → ℤ) (others : List ℤ) → AreKeysOf named key others old → AreKeysOf named key others now)

-- What the first rules decide of all pairs is the order of the branches by all rules.
abbrev pub DecidedPairsAreOrdered : Type 0
DecidedPairsAreOrdered = (seen : Seen Node) (r_first : Bool) (node : ℕ → Node) (count : ℕ) (begin pairs : List BranchPair)
    (rules more : List Rule) →
    AllByRecursion (AreWithin count) begin → rules ++ more ≡ rules_in_turn
    → pairs ≡ map (with_found (decided_in_turn seen r_first rules node)) begin → list_all is_decided pairs ≡ true
    → pairs ≡ map (with_found (λ a b. order seen r_first (node a) (node b))) begin
