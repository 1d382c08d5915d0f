-- The letters of units at a node.
use Rattle.std.proofs.Common.{◌≡◌, ◌≤◌, ◌-◌, ℕ, false, List, [], ◌∷◌, filter, map, take, drop, length, sym, ap, ◌∙◌, None, Some, arith, slice_index_or}
use Rattle.std.specs.declared.option.Option.{Option}
use Rattle.cip_mol.specs.declared.labels.descriptor.Descriptor.{Descriptor}
use Rattle.cip_mol.specs.declared.labels.descriptor.Sense.{Sense}
use Rattle.cip_mol.specs.declared.site.Cause.{Cause}
use Rattle.cip_mol.specs.declared.site.Geometry.TheVariants.{Known, Unknown}
use Rattle.cip_mol.specs.declared.site.Unit as units
use Rattle.cip_digraph.specs.rules.Auxiliary.{nearer_first, roots_at, letter_at, unit_letter, first_letter}
use Rattle.cip_digraph.specs.digraph.Digraph.{Node}
use Rattle.cip_mol.specs.Ends.{between_of}
use Rattle.cip_digraph.specs.units.Ends.{ends_of}
use Rattle.cip_digraph.specs.digraph.Telling.{node_at}
use Rattle.cip_digraph.specs.digraph.View.{real_at}
use Rattle.cip_digraph.specs.declared.decisions.parity.Parity.{Parity}
use Rattle.cip_aux.specs.InnerContext.{InnerContext, AgreesInside, Ready}
use Rattle.cip_aux.specs.DescriptorsInside.{AreEndTurns, IsUnitLetter, IsFirstLetter}
use Rattle.cip_digraph.specs.Lettered.{turned_letter}
use Rattle.cip_digraph.specs.TurnsOf.{roots_turns}
use Rattle.cip_aux.specs.Views.{path_at}
use Rattle.cip_aux.proofs.lemmas.RootsAt.{unit_letter_is}
use Rattle.cip_aux.specs.UnitIndex.{ArePlaces, ends_at, unit_at}
use Rattle.cip_aux.proofs.lemmas.FirstLetters.{first_filtered}
use Rattle.cip_digraph.proofs.lemmas.OddTurns.{rest_is}
use Rattle.cip_aux.proofs.lemmas.Paths.{real_is}

module _ (inner : InnerContext) (node : ℕ) (r : Ready inner node) where
  -- the vertex of a real node is the first one of its path
  pub head_is : (vertex : ℕ) (up : List ℕ) → path_at inner.sight.nodes node ≡ vertex ∷ up
      → (node_at inner.sight.nodes node).vertex ≡ vertex
  head_is vertex up e = ap (λ (n : Node). n.vertex) (real_is inner.sight r.shows node r.real ∙ ap real_at e)

  known_by : (unit : units.Unit) (sense : Sense) (descriptor : List ℕ → Option Descriptor) (vertex : ℕ) (up : List ℕ)
      → unit.geometry ≡ Known sense
      → letter_at inner.sight.rules inner.sight.graph inner.sight.positions unit.site sense
      (roots_at inner.sight.rules inner.sight.graph inner.sight.positions descriptor (vertex ∷ up) (between_of unit.site)
      (nearer_first vertex (ends_of unit.site)))
      ≡ unit_letter inner.sight.rules inner.sight.graph inner.sight.positions unit vertex up descriptor
  known_by unit sense descriptor vertex up e =
      ap (λ geometry. unit_letter inner.sight.rules inner.sight.graph inner.sight.positions
      (record { site = unit.site; geometry = geometry }) vertex up descriptor) (sym e)

  pub known_letter : (unit : units.Unit) (sense : Sense) (at : ℕ) (parities : Option Parity) → unit.geometry ≡ Known sense
      → at ≡ (node_at inner.sight.nodes node).vertex
      → AreEndTurns inner node false (between_of unit.site) (nearer_first at (ends_of unit.site)) parities
      → IsUnitLetter inner node unit (turned_letter unit.site sense parities)
  known_letter unit sense at parities e here t = record {
    each = λ descriptor vertex up agrees path.
        let same : at ≡ vertex = here ∙ head_is vertex up path in
        let roots =
        λ (p : List ℕ) (v : ℕ). roots_at inner.sight.rules inner.sight.graph inner.sight.positions descriptor p
        (between_of unit.site) (nearer_first v (ends_of unit.site)) in
        ap (turned_letter unit.site sense) (t.each descriptor agrees ∙ (λ i. roots_turns (roots (path i) (same i))))
        ∙ sym (unit_letter_is inner.sight.rules inner.sight.graph inner.sight.positions descriptor (vertex ∷ up)
        (between_of unit.site) (nearer_first vertex (ends_of unit.site)) unit.site sense)
        ∙ known_by unit sense descriptor vertex up e;
  }

  pub unknown_letter : (unit : units.Unit) (cause : Cause) → unit.geometry ≡ Unknown cause
      → IsUnitLetter inner node unit None
  unknown_letter unit cause e = record {
    each =
        λ descriptor vertex up agrees path. ap
        (λ geometry. unit_letter inner.sight.rules inner.sight.graph inner.sight.positions
        (record { site = unit.site; geometry = geometry }) vertex up descriptor) (sym e);
  }

-- the letters of units by their places, from the first one on
module _ (inner : InnerContext) (node : ℕ) (all : List units.Unit) where
  abbrev first_of : List units.Unit → ℕ → List ℕ → (List ℕ → Option Descriptor) → Option Descriptor
  first_of = first_letter inner.sight.rules inner.sight.graph inner.sight.positions

  -- the units at these places have the letter of all
  abbrev pub Leaves : List ℕ → Type 0
  Leaves places = (descriptor : List ℕ → Option Descriptor) (vertex : ℕ) (up : List ℕ) → AgreesInside inner descriptor
      → path_at inner.sight.nodes node ≡ vertex ∷ up
      → first_of (map (unit_at all) places) vertex up descriptor ≡ first_of all vertex up descriptor

  abbrev or_first : List units.Unit → ℕ → List ℕ → (List ℕ → Option Descriptor) → Option Descriptor → Option Descriptor
  or_first others vertex up descriptor letter =
      elim letter as (λ _. Option Descriptor) [ None ↦ first_of others vertex up descriptor | Some found ↦ Some found ]

  pub letter_here : (places : List ℕ) (d : ℕ) (found : Descriptor) → 1 ≤ length places
      → IsUnitLetter inner node (unit_at all (slice_index_or places 0 d)) (Some found) → Leaves places
      → IsFirstLetter inner node all (Some found)
  letter_here [] d found some h leaves = absurd (omega arith)
  letter_here (place ∷ others) d found some h leaves = record {
    each = λ descriptor vertex up agrees path.
        ap (or_first (map (unit_at all) others) vertex up descriptor) (h.each descriptor vertex up agrees path)
        ∙ leaves descriptor vertex up agrees path;
  }

  pub none_here : (places : List ℕ) (d : ℕ) → 1 ≤ length places
      → IsUnitLetter inner node (unit_at all (slice_index_or places 0 d)) None → Leaves places
      → Leaves (take (length places - 1) (drop 1 places))
  none_here [] d some h leaves descriptor vertex up agrees path = absurd (omega arith)
  none_here (place ∷ others) d some h leaves descriptor vertex up agrees path =
      ap (λ places. first_of (map (unit_at all) places) vertex up descriptor) (rest_is place others)
      ∙ ap (or_first (map (unit_at all) others) vertex up descriptor) (h.each descriptor vertex up agrees path)
      ∙ leaves descriptor vertex up agrees path

  pub none_left : (places : List ℕ) → length places ≡ 0 → Leaves places → IsFirstLetter inner node all None
  none_left [] none leaves = record { each = λ descriptor vertex up agrees path. leaves descriptor vertex up agrees path }
  none_left (place ∷ places) none leaves = absurd (omega arith)

-- those of the units that end at the vertex
pub ends_leave : (inner : InnerContext) (node at : ℕ) (all : List units.Unit) (places : List ℕ) → Ready inner node
    → at ≡ (node_at inner.sight.nodes node).vertex → ArePlaces all all at places → Leaves inner node all places
ends_leave inner node at all places r here are descriptor vertex up agrees path =
    ap (λ us. first_letter inner.sight.rules inner.sight.graph inner.sight.positions us vertex up descriptor)
    (are.units ∙ ap (λ v. filter (ends_at v) all) (here ∙ head_is inner node r vertex up path))
    ∙ first_filtered inner.sight vertex up descriptor all
