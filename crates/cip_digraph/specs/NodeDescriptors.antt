-- The descriptors of nodes by number, and how many there is room for. Own.
use Rattle.std.specs.Prelude.{ℕ, List}
use Rattle.std.specs.declared.option.Option.{Option}
use Rattle.cip_mol.specs.declared.labels.descriptor.Descriptor.{Descriptor}

pub record NodeDescriptors : Type 0 where
  pub bound : ℕ
  pub descriptors : List (Option Descriptor)
