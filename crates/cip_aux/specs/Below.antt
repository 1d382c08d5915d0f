-- The nodes strictly below one of them, by number, and their descriptors. Own.
use Rattle.std.specs.Prelude.{◌==◌, ℕ, Bool, false, cond, List, None, slice_index, slice_index_or}
use Rattle.std.specs.declared.option.Option.{Option}
use Rattle.cip_mol.specs.declared.labels.descriptor.Descriptor.{Descriptor}
use Rattle.cip_rank.specs.View.{on_way}

-- the parent of such a node is the other one, or below it
abbrev pub is_below : List ℕ → ℕ → ℕ → Bool
is_below parents from node = cond (node == 0) false (on_way parents (slice_index parents node) from)

abbrev pub descriptor_below : List ℕ → ℕ → List (Option Descriptor) → ℕ → Option Descriptor
descriptor_below parents from descriptors node = cond (is_below parents from node) (slice_index_or descriptors node None) None
