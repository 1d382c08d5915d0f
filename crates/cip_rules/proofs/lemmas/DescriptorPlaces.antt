-- Descriptors that are known at places of unresolved branches: the keys that they make, and that they stay known.
use Rattle.std.proofs.Common.{◌≡◌, ◌<◌, ℕ, Bool, List, length, slice_index, sym, ap, ◌∙◌, subst}
use Rattle.std.specs.Prelude.{None}
use Rattle.std.specs.declared.option.Option.{Option}
use Rattle.std.specs.List.{slice_index_or}
use Rattle.cip_mol.specs.declared.labels.descriptor.Descriptor.{Descriptor}
use Rattle.cip_mol.specs.declared.labels.outcome.Rule.{Rule}
use Rattle.cip_digraph.specs.rules.Orders.{Seen}
use Rattle.cip_branches.specs.Deciding.{Branched}
use Rattle.cip_partition.specs.PlaceTree.{PlaceTree}
use Rattle.cip_branches.specs.Standing.{node_in, AreKeysOf}
use Rattle.cip_digraph.specs.declared.decisions.branch_pair.BranchPair.{BranchPair}
use Rattle.cip_rules.specs.Counting.{AppliesDescriptorRule}
use Rattle.cip_rules.specs.DescriptorMap.{AreDescriptorsOf}
use Rattle.cip_rules.specs.Orders.{key_by, key_of_descriptor}
use Rattle.cip_rules.specs.Taking.{WantsNoMore}

module _ {N : Type 0} (named : ℕ → N) (descriptors : List (Option Descriptor)) where
  -- keys that are those of descriptors at places of unresolved branches are keys of the nodes there
  pub keys_by_taken : (seen : Seen N) (r_first : Bool) (rule : Rule)
      → ((node : N) → key_of_descriptor r_first rule (seen.descriptor node) ≡ key_by seen r_first rule node) → (begin now : Branched)
      → (pairs new : List BranchPair) → AreDescriptorsOf named seen.descriptor descriptors begin
      → (takes : AppliesDescriptorRule descriptors r_first rule begin pairs now new)
      → AreKeysOf named (key_by seen r_first rule) takes.keys begin
  keys_by_taken seen r_first rule is begin now pairs new known takes = record {
    each = λ t place p.
        takes.same t place p (known.within t place p) ∙ ap (key_of_descriptor r_first rule) (known.each t place p)
        ∙ is (node_in named begin place);
  }

  -- over the same places, where no more branches are unresolved
  pub descriptors_stay : (descriptor : N → Option Descriptor) (old now : Branched) → now.layers.place_tree ≡ old.layers.place_tree
      → WantsNoMore old now → AreDescriptorsOf named descriptor descriptors old → AreDescriptorsOf named descriptor descriptors now
  descriptors_stay descriptor old now place_tree fewer known = record {
    within = λ t place p. subst (λ (k : PlaceTree). slice_index k.nodes place < length descriptors) (sym place_tree)
        (known.within t place (fewer.each t place p));
    each = λ t place p. subst (λ (k : PlaceTree). slice_index_or descriptors (slice_index k.nodes place) None
        ≡ descriptor (named (slice_index k.nodes place))) (sym place_tree) (known.each t place (fewer.each t place p));
  }
