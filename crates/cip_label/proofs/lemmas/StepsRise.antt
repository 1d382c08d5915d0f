-- Steps that are taken for the ends of a site.
use Rattle.std.proofs.Common.{◌≡◌, ◌+◌, ◌∷◌, ◌∙◌, [], ℕ, List, arith, ap, refl, sym, subst, slice_get, Some}
use Rattle.std.specs.Prelude.{unwrap_or}
use Rattle.cip_mol.specs.declared.labels.descriptor.Sense.{Sense}
use Rattle.cip_mol.specs.declared.site.Cause.{Cause}
use Rattle.cip_mol.specs.declared.site.Geometry.TheVariants.{Known, Unknown}
use Rattle.cip_mol.specs.declared.site.Site.{Site}
use Rattle.cip_mol.specs.declared.site.Unit.{Unit}
use Rattle.cip_digraph.specs.units.Ends.{End, ends_of}
use Rattle.cip_label.specs.Settings.{LabelContext}
use Rattle.cip_label.specs.Steps.{Rises, LabelRises, most_steps}

module _ (setting : LabelContext) (bound : ℕ) where
  abbrev most : List End → ℕ
  most ends = most_steps setting bound ends

  most_of_two : (one other : End) → most (one ∷ other ∷ []) ≡ most (one ∷ []) + most (other ∷ [])
  most_of_two one other = omega arith

  pub in_site : (site : Site) (ends : List End) (before after : ℕ) → ends_of site ≡ ends →
      Rises setting bound ends before after → Rises setting bound (ends_of site) before after
  in_site site ends before after e rises = subst (λ ends. Rises setting bound ends before after) (sym e) rises

  module _ (site : Site) (one other : End) (are : ends_of site ≡ one ∷ other ∷ []) where
    pub one_of_two : (before after : ℕ) → Rises setting bound (one ∷ []) before after →
        Rises setting bound (ends_of site) before after
    one_of_two before after rises = in_site site (one ∷ other ∷ []) before after are (record {
      later = rises.later;
      few = omega (arith, rises.few, most_of_two one other);
    })

    pub both : (before between after bound_then : ℕ) → bound_then ≡ bound →
        Rises setting bound (one ∷ []) before between → Rises setting bound_then (other ∷ []) between after →
        Rises setting bound (ends_of site) before after
    both before between after bound_then kept first then =
        let second = subst (λ b. Rises setting b (other ∷ []) between after) kept then in
        in_site site (one ∷ other ∷ []) before after are (record {
          later = omega (arith, first.later, second.later);
          few = omega (arith, first.few, second.few, most_of_two one other);
        })

  same_entry : (place : ℕ) (one other : Unit) → slice_get setting.units place ≡ Some one →
      slice_get setting.units place ≡ Some other → one ≡ other
  same_entry place one other e f = ap (λ found. unwrap_or found one) (sym e ∙ f)

  pub unknown_rises : (place : ℕ) (unit u : Unit) (cause : Cause) (steps : ℕ) →
      slice_get setting.units place ≡ Some unit → unit.geometry ≡ Unknown cause →
      slice_get setting.units place ≡ Some u →
      LabelRises setting bound u steps steps
  unknown_rises place unit u cause steps here e at =
      subst (λ v. LabelRises setting bound v steps steps) (same_entry place unit u here at)
      (subst (λ g. LabelRises setting bound (record { site = unit.site; geometry = g }) steps steps) (sym e) refl)

  pub known_rises : (place : ℕ) (unit u : Unit) (sense : Sense) (before after : ℕ) →
      slice_get setting.units place ≡ Some unit → unit.geometry ≡ Known sense → slice_get setting.units place ≡ Some u →
      Rises setting bound (ends_of unit.site) before after → LabelRises setting bound u before after
  known_rises place unit u sense before after here e at rises =
      subst (λ v. LabelRises setting bound v before after) (same_entry place unit u here at)
      (subst (λ g. LabelRises setting bound (record { site = unit.site; geometry = g }) before after) (sym e) rises)
