-- Rules that look at descriptors, taken over branches. Own.
use Rattle.std.specs.Prelude.{◌≡◌, ℕ, true, false, List, map}
use Rattle.std.specs.declared.option.Option.{Option}
use Rattle.std.specs.List.{AllByRecursion}
use Rattle.cip_mol.specs.declared.labels.descriptor.Descriptor.{Descriptor}
use Rattle.cip_mol.specs.declared.labels.outcome.Rule.{Rule}
use Rattle.cip_mol.specs.declared.labels.outcome.Rule.TheVariants.{R3}
use Rattle.cip_digraph.specs.digraph.Digraph.{Node}
use Rattle.cip_digraph.specs.rules.Decisions.{order}
use Rattle.cip_digraph.specs.rules.Orders.{Seen}
use Rattle.cip_branches.specs.Deciding.{Branched}
use Rattle.cip_digraph.specs.declared.decisions.branch_pair.BranchPair.{BranchPair}
use Rattle.cip_digraph.specs.Asking.{AreWithin, with_found}
use Rattle.cip_rules.specs.Deciding.{AreDecidedBy, AreReadyFor}
use Rattle.cip_rules.specs.DescriptorMap.{AreDescriptorsOf}
use Rattle.cip_rules.specs.Orders.{order_before, rules_before}

-- Pairs that were decided by the rules before one are decided by those before another, in whichever digraph these
-- descriptors are the nodes'.
pub record DecidesOn (descriptors : List (Option Descriptor)) (rule next : Rule) (old : Branched) (pairs : List BranchPair)
    (now : Branched) (new : List BranchPair) : Type 0 where
  pub each : (seen : Seen Node) (named node : ℕ → Node) (count : ℕ) (begin : List BranchPair)
      → AllByRecursion (AreWithin count) begin
      → AreDecidedBy seen true named node count begin (rules_before rule) (order_before seen true rule) old pairs
      → AreDescriptorsOf named seen.descriptor descriptors old → AreReadyFor seen true named node count begin next now new

-- Pairs that were decided by constitution are decided by all rules, whichever kind has precedence in the last one.
pub record DecidesAll (descriptors : List (Option Descriptor)) (old : Branched) (pairs new turned : List BranchPair) : Type 0 where
  pub each : (seen : Seen Node) (named node : ℕ → Node) (count : ℕ) (begin : List BranchPair)
      → AllByRecursion (AreWithin count) begin
      → AreDecidedBy seen true named node count begin (rules_before R3) (order_before seen true R3) old pairs
      → AreDescriptorsOf named seen.descriptor descriptors old
      → (new ≡ map (with_found (λ a b. order seen true (node a) (node b))) begin)
      × (turned ≡ map (with_found (λ a b. order seen false (node a) (node b))) begin)
