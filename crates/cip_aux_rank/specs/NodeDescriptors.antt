-- The descriptors that count at a node, by number. Own.
use Rattle.std.specs.Prelude.{ℕ, List, length, map}
use Rattle.std.specs.List.{range_with_len}
use Rattle.std.specs.declared.option.Option.{Option}
use Rattle.cip_mol.specs.declared.labels.descriptor.Descriptor.{Descriptor}
use Rattle.cip_aux.specs.Below.{descriptor_below}

abbrev pub descriptors_below : List ℕ → ℕ → List (Option Descriptor) → List (Option Descriptor)
descriptors_below parents from descriptors = map (descriptor_below parents from descriptors) (range_with_len 0 (length parents))
