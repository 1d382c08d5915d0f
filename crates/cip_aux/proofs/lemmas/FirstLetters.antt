-- Units that don't end at a vertex have no letter there.
use Rattle.std.proofs.Common.{◌≡◌, ℕ, Bool, true, false, ◌==◌, ◌||◌, cond, List, [], ◌∷◌, refl, sym, ap, ◌∙◌, None, Some, filter}
use Rattle.std.specs.List.{list_any}
use Rattle.std.specs.declared.option.Option.{Option}
use Rattle.std.proofs.lemmas.Bool.{or_parts}
use Rattle.cip_mol.specs.declared.labels.descriptor.Descriptor.{Descriptor}
use Rattle.cip_mol.specs.declared.site.Geometry.{Geometry}
use Rattle.cip_mol.specs.declared.site.Geometry.TheVariants.{Known, Unknown}
use Rattle.cip_mol.specs.declared.site.Site.{Site}
use Rattle.cip_mol.specs.declared.site.Unit as units
use Rattle.cip_digraph.specs.rules.Auxiliary.{nearer_first, roots_at, letter_at, unit_letter, first_letter}
use Rattle.cip_mol.specs.Ends.{between_of}
use Rattle.cip_digraph.specs.units.Ends.{End, ends_of}
use Rattle.cip_aux.specs.Views.{DigraphView}
use Rattle.cip_aux.specs.UnitIndex.{ends_at}

module _ (sight : DigraphView) (vertex : ℕ) (up : List ℕ) (descriptor : List ℕ → Option Descriptor) where
  none_nearer : (ends : List End) → list_any (λ end. end.at == vertex) ends ≡ false → nearer_first vertex ends ≡ []
  none_nearer [] e = refl
  none_nearer (end ∷ []) e = rw (or_parts (end.at == vertex) false e).0 refl
  none_nearer (end ∷ other ∷ ends) e =
      let others = list_any (λ (end : End). end.at == vertex) ends in
      let first = or_parts (end.at == vertex) ((other.at == vertex) || others) e in
      let second = or_parts (other.at == vertex) others first.1 in
      rw (first.0, second.0) refl

  unit_none : (site : Site) (geometry : Geometry) → ends_at vertex (record { site = site; geometry = geometry }) ≡ false
      → unit_letter sight.rules sight.graph sight.positions (record { site = site; geometry = geometry }) vertex up descriptor
      ≡ None
  unit_none site (Known sense) e =
      ap (λ ends. letter_at sight.rules sight.graph sight.positions site sense
      (roots_at sight.rules sight.graph sight.positions descriptor (vertex ∷ up) (between_of site) ends))
      (none_nearer (ends_of site) e)
  unit_none site (Unknown cause) e = refl

  abbrev first_of : List units.Unit → Option Descriptor
  first_of all = first_letter sight.rules sight.graph sight.positions all vertex up descriptor

  abbrev or_first : List units.Unit → Option Descriptor → Option Descriptor
  or_first others letter =
      elim letter as (λ _. Option Descriptor) [ None ↦ first_of others | Some found ↦ Some found ]

  pub first_filtered : (all : List units.Unit) → first_of (filter (ends_at vertex) all) ≡ first_of all
  first_filtered [] = refl
  first_filtered (unit ∷ others) = by (ends_at vertex unit) refl (first_filtered others)
    where
      by : (b : Bool) → ends_at vertex unit ≡ b → first_of (filter (ends_at vertex) others) ≡ first_of others
          → first_of (cond b (unit ∷ filter (ends_at vertex) others) (filter (ends_at vertex) others))
          ≡ first_of (unit ∷ others)
      by true e rest =
          ap (λ later. elim (unit_letter sight.rules sight.graph sight.positions unit vertex up descriptor) as
          (λ _. Option Descriptor) [ None ↦ later | Some found ↦ Some found ]) rest
      by false e rest = rest ∙ sym (ap (or_first others) (unit_none unit.site unit.geometry e))
