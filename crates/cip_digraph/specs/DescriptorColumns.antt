-- The column of descriptors, and the room that it keeps. Own.
use Rattle.std.specs.Prelude.{◌<◌, ◌≤◌, ◌^◌, length, vec_capacity}
use Rattle.cip_digraph.specs.NodeDescriptors.{NodeDescriptors}
use Rattle.cip_digraph.specs.declared.letters.descriptors.Descriptors.TheInside.{Inside}

abbrev pub descriptors_of : Inside → NodeDescriptors
descriptors_of columns = record { bound = columns.bound; descriptors = columns.descriptors.items }

pub record HaveRoom (columns : Inside) : Type 0 where
  pub bound : columns.bound < 2 ^ 32
  pub fits : length columns.descriptors.items ≤ columns.bound
  pub room : columns.bound ≤ vec_capacity columns.descriptors
