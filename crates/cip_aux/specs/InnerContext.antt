-- Descriptors strictly inside the subtree of a node, by number. Own.
use Rattle.std.specs.Prelude.{◌≡◌, ◌<◌, ℕ, Bool, true, false, cond, List, length, None, slice_index_or}
use Rattle.std.specs.declared.option.Option.{Option}
use Rattle.cip_mol.specs.declared.labels.descriptor.Descriptor.{Descriptor}
use Rattle.cip_digraph.specs.digraph.Digraph.{is_real}
use Rattle.cip_digraph.specs.digraph.NodeList.{parents_of}
use Rattle.cip_digraph.specs.digraph.Telling.{node_at}
use Rattle.cip_aux.specs.Below.{descriptor_below}
use Rattle.cip_aux.specs.Views.{DigraphView, Shows, path_at, IsReal}

abbrev pub descriptor_at : List (Option Descriptor) → ℕ → Option Descriptor
descriptor_at descriptors number = slice_index_or descriptors number None

-- a node, and a descriptor or none for each node, of which only those strictly below it count
pub record InnerContext : Type 0 where
  pub sight : DigraphView
  pub from : ℕ
  pub descriptors : List (Option Descriptor)

-- they are those of real nodes by their paths
pub record AgreesInside (inner : InnerContext) (descriptor : List ℕ → Option Descriptor) : Type 0 where
  pub each : (number : ℕ) → number < length inner.sight.nodes
      → descriptor_below (parents_of inner.sight.node_data) inner.from inner.descriptors number
      ≡ cond (is_real (node_at inner.sight.nodes number).kind) (descriptor (path_at inner.sight.nodes number)) None

-- the descriptors that an answer speaks of: all, where constitution alone decided it, else those that agree
abbrev pub Counts : Bool → InnerContext → (List ℕ → Option Descriptor) → Type 0
Counts true inner descriptor = Unit {0}
Counts false inner descriptor = AgreesInside inner descriptor

-- another node can be looked from with them
pub record Ready (inner : InnerContext) (node : ℕ) : Type 0 where
  pub shows : Shows inner.sight
  pub real : IsReal inner.sight.nodes node
  pub descriptors : length inner.descriptors ≡ length inner.sight.nodes
