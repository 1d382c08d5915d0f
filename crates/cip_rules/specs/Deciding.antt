-- Branches whose pairs are decided by some rules in turn, and that the next rule goes on from. Own.
use Rattle.std.specs.Prelude.{◌≡◌, ◌≤◌, ℕ, Bool, true, false, List, length, map}
use Rattle.std.specs.List.{list_all}
use Rattle.std.specs.declared.cmp.Ordering.{Ordering}
use Rattle.cip_mol.specs.declared.labels.outcome.Rule.{Rule}
use Rattle.cip_mol.specs.declared.labels.outcome.Rule.TheVariants.{R3}
use Rattle.cip_digraph.specs.rules.Orders.{Seen}
use Rattle.cip_branches.specs.Deciding.{Branched}
use Rattle.cip_branches.specs.Standing.{node_in, WantedIn, StandsBy}
use Rattle.cip_branches.specs.Views.{IsEnded}
use Rattle.cip_digraph.specs.declared.decisions.branch_pair.BranchPair.{BranchPair}
use Rattle.cip_digraph.specs.Asking.{is_decided, with_found}
use Rattle.cip_rules.specs.Orders.{decided_in_turn, order_before, rules_before}

-- The nodes of n branches are given. Their numbers follow an order, that of the rules so far, as far as the
-- branches go; and pairs that were asked about are decided by these rules.
module _ {N : Type 0} (seen : Seen N) (r_first : Bool) (named node : ℕ → N) (count : ℕ) (begin : List BranchPair) where
  pub record AreDecidedBy (rules : List Rule) (compare : N → N → Ordering) (now : Branched) (pairs : List BranchPair) : Type 0
    where
      pub stands : StandsBy seen.children named compare now
      pub ended : IsEnded seen.children (node_in named now) (WantedIn now) now.last
      pub tall : now.last ≤ seen.height
      pub nodes : (a : ℕ) → node_in named now a ≡ node a
      pub tops : length now.unresolved ≡ count
      pub noted : pairs ≡ map (with_found (decided_in_turn seen r_first rules node)) begin

  -- Pairs are decided by the rules before one. Where a pair isn't, the numbers are those that the rule goes on from.
  pub record AreReadyFor (rule : Rule) (now : Branched) (pairs : List BranchPair) : Type 0 where
    pub noted : pairs ≡ map (with_found (decided_in_turn seen r_first (rules_before rule) node)) begin
    pub stands : list_all is_decided pairs ≡ false
        → AreDecidedBy (rules_before rule) (order_before seen r_first rule) now pairs

-- by constitution, isotopes included
abbrev pub AreOfConstitution : {N : Type 0} → Seen N → (ℕ → N) → (ℕ → N) → ℕ → List BranchPair → Branched → List BranchPair → Type 0
AreOfConstitution seen named node count begin now pairs = AreReadyFor seen true named node count begin R3 now pairs
