-- What each step to the descriptors inside a digraph answers. Own.
use Rattle.std.specs.Prelude.{◌≡◌, ◌<◌, ◌≤◌, ℕ, Bool, true, false, cond, slice_index, slice_index_or, List, ◌∷◌, length, All, None}
use Rattle.std.specs.declared.option.Option.{Option}
use Rattle.cip_mol.specs.declared.labels.descriptor.Descriptor.{Descriptor}
use Rattle.cip_mol.specs.declared.site.Ligand.{Ligand}
use Rattle.cip_mol.specs.declared.site.Unit as units
use Rattle.cip_digraph.specs.digraph.Digraph.{Node, is_real}
use Rattle.cip_digraph.specs.digraph.NodeList.{parents_of}
use Rattle.cip_digraph.specs.digraph.Telling.{node_at}
use Rattle.cip_digraph.specs.rules.Auxiliary.{root_at, roots_at, unit_letter, first_letter, auxiliary}
use Rattle.cip_digraph.specs.units.Ends.{End}
use Rattle.cip_aux.specs.Below.{is_below}
use Rattle.cip_digraph.specs.declared.decisions.parity.Parity.{Parity}
use Rattle.cip_digraph.specs.Sides.{pair_sides}
use Rattle.cip_digraph.specs.TurnsOf.{root_turns, roots_turns, turns_of}
use Rattle.cip_aux.specs.InnerContext.{InnerContext, AgreesInside, Counts, descriptor_at}
use Rattle.cip_aux.specs.Joining.{EndsJoin}
use Rattle.cip_aux.specs.Views.{DigraphView, path_at, seen_sides}
use Rattle.cip_aux.specs.declared.ligand_ranker.FoundParity.{FoundParity}

module _ (inner : InnerContext) (node : ℕ) where
  -- the turns of these ligands at the node, whichever descriptors agree with those inside; by constitution whichever
  -- there are
  pub record AreRootTurns (by_constitution : Bool) (ligands : List Ligand) (parities : Option Parity) : Type 0 where
    pub each : (descriptor : List ℕ → Option Descriptor) → Counts by_constitution inner descriptor → parities
        ≡ root_turns
        (root_at inner.sight.rules inner.sight.graph inner.sight.positions descriptor (path_at inner.sight.nodes node)
        ligands)

  -- the same of ligands by number: how each two of them compare, with R and with S first in the last rule
  pub record AreSeenTurns (ligands : List (Option ℕ)) (found : FoundParity) : Type 0 where
    pub each : (descriptor : List ℕ → Option Descriptor) → Counts found.by_constitution inner descriptor → found.parities
        ≡ turns_of (pair_sides (seen_sides inner.sight node descriptor true) ligands)
        (pair_sides (seen_sides inner.sight node descriptor false) ligands)

  pub record AreEndTurns (by_constitution : Bool) (between : List ℕ) (ends : List End) (parities : Option Parity) : Type
      0 where
    pub each : (descriptor : List ℕ → Option Descriptor) → Counts by_constitution inner descriptor → parities
        ≡ roots_turns
        (roots_at inner.sight.rules inner.sight.graph inner.sight.positions descriptor (path_at inner.sight.nodes node)
        between ends)

  pub record IsUnitLetter (unit : units.Unit) (letter : Option Descriptor) : Type 0 where
    pub each : (descriptor : List ℕ → Option Descriptor) (vertex : ℕ) (up : List ℕ) → AgreesInside inner descriptor
        → path_at inner.sight.nodes node ≡ vertex ∷ up
        → letter ≡ unit_letter inner.sight.rules inner.sight.graph inner.sight.positions unit vertex up descriptor

  pub record IsFirstLetter (all : List units.Unit) (letter : Option Descriptor) : Type 0 where
    pub each : (descriptor : List ℕ → Option Descriptor) (vertex : ℕ) (up : List ℕ) → AgreesInside inner descriptor
        → path_at inner.sight.nodes node ≡ vertex ∷ up
        → letter ≡ first_letter inner.sight.rules inner.sight.graph inner.sight.positions all vertex up descriptor

abbrev pub UnitsJoin : DigraphView → List units.Unit → Type 0
UnitsJoin sight all = All (λ unit. EndsJoin sight.graph unit.site) all

-- what is on a node: nothing on duplicates
abbrev pub descriptor_at_node : DigraphView → List units.Unit → Node → Option Descriptor
descriptor_at_node sight all node =
    cond (is_real node.kind) (auxiliary sight.rules sight.graph sight.positions all node.path) None

-- the nodes strictly below one of them have their descriptors
pub record AreInner (inner : InnerContext) (all : List units.Unit) : Type 0 where
  pub len : length inner.descriptors ≡ length inner.sight.nodes
  pub each : (number : ℕ) → number < length inner.sight.nodes
      → is_below (parents_of inner.sight.node_data) inner.from number ≡ true
      → descriptor_at inner.descriptors number ≡ descriptor_at_node inner.sight all (node_at inner.sight.nodes number)

abbrev pub flag_at : List Bool → ℕ → Bool
flag_at flags number = slice_index_or flags number false

-- below each node that is requested all nodes are
pub record AreWanted (parents : List ℕ) (requested : List Bool) : Type 0 where
  pub below : (number : ℕ) → 0 < number → number < length parents
      → flag_at requested (slice_index parents number) ≡ true → flag_at requested number ≡ true

-- The nodes that are requested, from a number on, have their descriptors, and the others of these none.
pub record HaveDescriptors (sight : DigraphView) (all : List units.Unit) (requested : List Bool) (from : ℕ)
    (descriptors : List (Option Descriptor)) : Type 0 where
  pub len : length descriptors ≡ length sight.nodes
  pub each : (number : ℕ) → from ≤ number → number < length sight.nodes → descriptor_at descriptors number
      ≡ cond (flag_at requested number) (descriptor_at_node sight all (node_at sight.nodes number)) None
