-- What another numbering and a mirror do to further units and to what is found of them. Own, after IUPAC 2013, P-92.
use Rattle.std.specs.Prelude.{◌≡◌, ◌⊎◌, ℕ, map, length}
use Rattle.cip_rank.specs.declared.rules.Rules.{Rules}
use Rattle.cip_mol.specs.Bonds as bonds
use Rattle.cip_mol.specs.Drawing.{Drawing}
use Rattle.cip_mol.specs.Reflection.{reflected}
use Rattle.cip_digraph.specs.graph.Renumbering.{IsRenumbering}
use Rattle.cip_digraph.specs.rules.Exchange.{reflected_geometry}
use Rattle.cip_laws.specs.DrawnOutcomes.{costs_in}
use Rattle.cip_symmetry.specs.Images.{Among, AreForward, AreCrossed, IsImageOutcome, CostsGo}
use Rattle.cip_laws.specs.RenumberingLaw.{on_vertices}
use Rattle.cip_laws.specs.ReflectionLaw.{IsMirrorOutcome}
use Rattle.cip_axis.specs.Further.{further_in}
use Rattle.cip_axis.specs.FurtherOutcomes.{as_unit, further_outcome_in}
use Rattle.cip_axis.specs.Likeness.{like}
use Rattle.cip_axis.specs.declared.site.FurtherSite.{FurtherSite}
use Rattle.cip_axis.specs.declared.site.FurtherSite.TheVariants.{Cumulene, Biaryl}
use Rattle.cip_axis.specs.declared.site.FurtherUnit.{FurtherUnit}

-- end by end, or with the ends in each other's place
abbrev pub AreImageEnds : (ℕ → ℕ) → FurtherSite → FurtherSite → Type 0
AreImageEnds image one two = AreForward image (like one) (like two) ⊎ AreCrossed image (like one) (like two)

-- a cumulene goes to one of as many double bonds, and a biaryl axis to a biaryl axis
abbrev pub IsImageFurther : (ℕ → ℕ) → FurtherSite → FurtherSite → Type 0
IsImageFurther image (Cumulene a b bonds first second) (Cumulene c d doubles third fourth) =
    (doubles ≡ bonds)
    × AreImageEnds image (Cumulene a b bonds first second) (Cumulene c d doubles third fourth)
IsImageFurther image (Biaryl a b first second) (Biaryl c d third fourth) =
    AreImageEnds image (Biaryl a b first second) (Biaryl c d third fourth)
IsImageFurther image (Cumulene a b bonds first second) (Biaryl c d third fourth) = ⊥
IsImageFurther image (Biaryl a b first second) (Cumulene c d doubles third fourth) = ⊥

pub record FurtherGo (rules : Rules) (bound : ℕ) (drawing other : Drawing) (image : ℕ → ℕ)
    (one two : FurtherUnit) : Type 0 where
  pub first : Among one (further_in drawing)
  pub second : Among two (further_in other)
  pub site : IsImageFurther (on_vertices drawing image) one.site two.site
  pub outcome : IsImageOutcome (on_vertices drawing image) (like one.site) (like two.site)
      (further_outcome_in rules bound drawing one) (further_outcome_in rules bound other two)
  pub costs : CostsGo (on_vertices drawing image) (like one.site) (like two.site)
      (costs_in rules drawing (as_unit one)) (costs_in rules other (as_unit two))

-- each further unit has an image, and is one
pub record FurtherOutcomesGo (rules : Rules) (bound : ℕ) (drawing other : Drawing) (image : ℕ → ℕ) : Type 0 where
  pub there : (one : FurtherUnit) → Among one (further_in drawing)
      → (two : FurtherUnit) × FurtherGo rules bound drawing other image one two
  pub back : (two : FurtherUnit) → Among two (further_in other)
      → (one : FurtherUnit) × FurtherGo rules bound drawing other image one two

abbrev pub RenumberingKeepsFurther : Type 0
RenumberingKeepsFurther = (rules : Rules) (bound : ℕ) (drawing other : Drawing) (image : ℕ → ℕ) →
    bonds.IsSound (length drawing.atoms) drawing.bonds → IsRenumbering drawing other image →
    FurtherOutcomesGo rules bound drawing other image

-- the sense turns where that of the unit which it is like does
abbrev pub reflected_further : FurtherUnit → FurtherUnit
reflected_further unit = record { site = unit.site; geometry = reflected_geometry (like unit.site) unit.geometry }

-- the mirror image of a drawing has the same further units, each in the other sense
pub record ReflectsFurther (drawing : Drawing) : Type 0 where
  pub all : further_in (reflected drawing) ≡ map reflected_further (further_in drawing)
  pub costs : (rules : Rules) (unit : FurtherUnit) →
      costs_in rules (reflected drawing) (as_unit (reflected_further unit)) ≡ costs_in rules drawing (as_unit unit)
  pub outcomes : (rules : Rules) (bound : ℕ) (unit : FurtherUnit) →
      IsMirrorOutcome (further_outcome_in rules bound drawing unit)
      (further_outcome_in rules bound (reflected drawing) (reflected_further unit))

abbrev pub ReflectionKeepsFurther : Type 0
ReflectionKeepsFurther = (drawing : Drawing) → ReflectsFurther drawing
