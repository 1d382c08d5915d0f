-- The outcome of a unit by its geometry.
use Rattle.std.proofs.Common.{◌≡◌, ◌∙◌, ℕ, List, Some, Result, Ok, Err, IfOk, ap, sym, slice_get}
use Rattle.std.specs.Prelude.{unwrap_or}
use Rattle.cip_mol.specs.declared.labels.descriptor.Sense.{Sense}
use Rattle.cip_mol.specs.declared.labels.outcome.Outcome.{Outcome}
use Rattle.cip_mol.specs.declared.labels.outcome.Outcome.TheVariants.{NoGeometry}
use Rattle.cip_mol.specs.declared.site.Cause.{Cause}
use Rattle.cip_mol.specs.declared.site.Geometry.{Geometry}
use Rattle.cip_mol.specs.declared.site.Geometry.TheVariants.{Known, Unknown}
use Rattle.cip_mol.specs.declared.site.Site.{Site}
use Rattle.cip_mol.specs.declared.site.Unit.{Unit}
use Rattle.cip_digraph.specs.outcome.Outcomes.{outcome_of}
use Rattle.cip_label.specs.Settings.{LabelContext, known_in, outcome_in}

same_entry : (all : List Unit) (place : ℕ) (one other : Unit) → slice_get all place ≡ Some one →
    slice_get all place ≡ Some other → one ≡ other
same_entry all place one other e f = ap (λ found. unwrap_or found one) (sym e ∙ f)

pub if_ok : {X E : Type 0} (P Q : X → Type 0) (result : Result X E) → ((x : X) → P x → Q x) → IfOk result P
    → IfOk result Q
if_ok P Q (Ok x) f p = f x p
if_ok P Q (Err e) f p = p

module _ (setting : LabelContext) (bound : ℕ) where
  pub known_unit : (site : Site) (geometry : Geometry) (sense : Sense) → geometry ≡ Known sense →
      known_in setting bound site sense ≡ outcome_in setting bound (record { site = site; geometry = geometry })
  unfolding outcome_of
  known_unit site geometry sense e = ap (λ g. outcome_in setting bound (record { site = site; geometry = g })) (sym e)

  pub unknown_unit : (site : Site) (geometry : Geometry) (cause : Cause) → geometry ≡ Unknown cause →
      NoGeometry cause ≡ outcome_in setting bound (record { site = site; geometry = geometry })
  unfolding outcome_of
  unknown_unit site geometry cause e = ap (λ g. outcome_in setting bound (record { site = site; geometry = g })) (sym e)

  pub unknown_at : (place : ℕ) (unit u : Unit) (cause : Cause) → slice_get setting.units place ≡ Some unit →
      unit.geometry ≡ Unknown cause → slice_get setting.units place ≡ Some u →
      NoGeometry cause ≡ outcome_in setting bound u
  unknown_at place unit u cause here e at =
      unknown_unit unit.site unit.geometry cause e ∙ ap (outcome_in setting bound)
      (same_entry setting.units place unit u here at)

  pub known_at : {E : Type 0} (place : ℕ) (unit : Unit) (sense : Sense) (result : Result Outcome E) →
      slice_get setting.units place ≡ Some unit → unit.geometry ≡ Known sense →
      IfOk result (λ outcome. outcome ≡ known_in setting bound unit.site sense) →
      IfOk result (λ outcome. (u : Unit) → slice_get setting.units place ≡ Some u →
      outcome ≡ outcome_in setting bound u)
  known_at place unit sense result here e ok =
      if_ok _ _ result (λ outcome is. λ u at. is ∙ known_unit unit.site unit.geometry sense e
      ∙ ap (outcome_in setting bound) (same_entry setting.units place unit u here at)) ok
