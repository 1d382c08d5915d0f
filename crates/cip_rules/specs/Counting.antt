-- Rules that look at descriptors, taken where some descriptor counts and passed over where none does. Own.
use Rattle.std.specs.Prelude.{◌≡◌, ◌≢◌, ◌<◌, ℕ, ℤ, pos, Bool, true, List, None, length, slice_index}
use Rattle.std.specs.List.{slice_index_or}
use Rattle.std.specs.declared.option.Option.{Option}
use Rattle.cip_rank.specs.Ranking.{key_at}
use Rattle.cip_mol.specs.declared.labels.descriptor.Descriptor.{Descriptor}
use Rattle.cip_mol.specs.declared.labels.outcome.Rule.{Rule}
use Rattle.cip_branches.specs.Deciding.{Branched}
use Rattle.cip_branches.specs.Standing.{WantedIn}
use Rattle.cip_partition.specs.Parting.{has_flag}
use Rattle.cip_digraph.specs.declared.decisions.branch_pair.BranchPair.{BranchPair}
use Rattle.cip_rules.specs.Orders.{key_of_descriptor}
use Rattle.cip_rules.specs.Taking.{TakesRule}

module _ (descriptors : List (Option Descriptor)) (r_first : Bool) (rule : Rule) where
  -- what the node at a place counts for
  abbrev pub key_of_descriptor_at : Branched → ℕ → ℤ
  key_of_descriptor_at now place = key_of_descriptor r_first rule (slice_index_or descriptors (slice_index now.layers.place_tree.nodes place) None)

  -- the nodes at places of unresolved branches count for nothing
  pub record AreUncounted (now : Branched) : Type 0 where
    pub each : (t place : ℕ) → WantedIn now t place → key_of_descriptor_at now place ≡ pos 0

  -- one of them counts
  pub record IsSomeCounted (now : Branched) : Type 0 where
    pub place : ℕ
    pub within : place < length now.layers.place_tree.place_parents
    pub flagged : has_flag now.unresolved (slice_index now.layers.place_tree.branches place) ≡ true
    pub counts : key_of_descriptor_at now place ≢ pos 0

  -- the rule is taken by keys that are those of descriptors at places of unresolved branches
  pub record AppliesDescriptorRule (begin : Branched) (pairs : List BranchPair) (now : Branched) (new : List BranchPair) : Type 0 where
    pub keys : List ℤ
    pub same : (t place : ℕ) → WantedIn begin t place → slice_index begin.layers.place_tree.nodes place < length descriptors
        → key_at keys (slice_index begin.layers.place_tree.nodes place) ≡ key_of_descriptor_at begin place
    pub takes : TakesRule begin keys rule pairs now new

  -- the same, whatever becomes of the branches
  pub record AppliesDescriptorRuleOnce (begin : Branched) (pairs new : List BranchPair) : Type 0 where
    pub now : Branched
    pub takes : AppliesDescriptorRule begin pairs now new
