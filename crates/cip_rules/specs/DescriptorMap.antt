-- Descriptors by the numbers of nodes, as branches show them. Own.
use Rattle.std.specs.Prelude.{◌≡◌, ◌≢◌, ◌<◌, ℕ, true, List, None, length, slice_index}
use Rattle.std.specs.List.{slice_index_or}
use Rattle.std.specs.declared.option.Option.{Option}
use Rattle.cip_mol.specs.declared.labels.descriptor.Descriptor.{Descriptor}
use Rattle.cip_branches.specs.Deciding.{Branched}
use Rattle.cip_partition.specs.Parting.{has_flag}
use Rattle.cip_branches.specs.Standing.{node_in, WantedIn}

-- n descriptors, by number, are those of the nodes at places of unresolved branches
pub record AreDescriptorsOf {N : Type 0} (named : ℕ → N) (descriptor : N → Option Descriptor) (descriptors : List (Option Descriptor))
    (now : Branched) : Type 0 where
  pub within : (t place : ℕ) → WantedIn now t place → slice_index now.layers.place_tree.nodes place < length descriptors
  pub each : (t place : ℕ) → WantedIn now t place
      → slice_index_or descriptors (slice_index now.layers.place_tree.nodes place) None ≡ descriptor (node_in named now place)

-- none of them is at a place of an unresolved branch
pub record HaveNoDescriptors (descriptors : List (Option Descriptor)) (now : Branched) : Type 0 where
  pub each : (t place : ℕ) → WantedIn now t place
      → slice_index_or descriptors (slice_index now.layers.place_tree.nodes place) None ≡ None

-- one of them is at a place of an unresolved branch
pub record HasSomeDescriptor (descriptors : List (Option Descriptor)) (now : Branched) : Type 0 where
  pub place : ℕ
  pub within : place < length now.layers.place_tree.place_parents
  pub flagged : has_flag now.unresolved (slice_index now.layers.place_tree.branches place) ≡ true
  pub key_or_zero : slice_index_or descriptors (slice_index now.layers.place_tree.nodes place) None ≢ None
