-- What another numbering keeps: each unit goes to a unit, and what is found of it goes along. Own, after IUPAC 2013,
-- P-92: ranking rests on the structure, not on numbers.
use Rattle.std.specs.Prelude.{◌≡◌, ◌+◌, ℕ, map, length, sum, cond, nat_lt}
use Rattle.std.specs.List.{range_with_len}
use Rattle.cip_rank.specs.declared.rules.Rules.{Rules}
use Rattle.cip_mol.specs.Bonds as bonds
use Rattle.cip_mol.specs.Drawing.{Drawing}
use Rattle.cip_mol.specs.declared.site.Unit as units
use Rattle.cip_digraph.specs.graph.Hydrogens.{hydrogens_of}
use Rattle.cip_digraph.specs.graph.Renumbering.{IsRenumbering}
use Rattle.cip_digraph.specs.units.Ends.{ends_of}
use Rattle.cip_laws.specs.DrawnOutcomes.{units_in, outcome_in, costs_in}
use Rattle.cip_symmetry.specs.Images.{Among, IsImageSite, IsImageOutcome, CostsGo}

-- a map of vertices, which leaves numbers that are none as they are
abbrev pub on_vertices : Drawing → (ℕ → ℕ) → ℕ → ℕ
on_vertices drawing image v =
    cond (nat_lt v
    (length drawing.atoms + sum (map (hydrogens_of drawing) (range_with_len 0 (length drawing.atoms)))))
    (image v) v

-- a unit of a drawing and its image in another one, with the outcomes and costs of both
pub record GoTogether (rules : Rules) (bound : ℕ) (drawing other : Drawing) (image : ℕ → ℕ)
    (one two : units.Unit) : Type 0 where
  pub first : Among one (units_in drawing)
  pub second : Among two (units_in other)
  pub site : IsImageSite (on_vertices drawing image) one.site two.site
  pub outcome : IsImageOutcome (on_vertices drawing image) one.site two.site (outcome_in rules bound drawing one)
      (outcome_in rules bound other two)
  pub costs : CostsGo (on_vertices drawing image) one.site two.site (costs_in rules drawing one)
      (costs_in rules other two)

-- each unit has an image, and is one
pub record OutcomesGo (rules : Rules) (bound : ℕ) (drawing other : Drawing) (image : ℕ → ℕ) : Type 0 where
  pub there : (one : units.Unit) → Among one (units_in drawing)
      → (two : units.Unit) × GoTogether rules bound drawing other image one two
  pub back : (two : units.Unit) → Among two (units_in other)
      → (one : units.Unit) × GoTogether rules bound drawing other image one two

-- in both wordings of Rule 1b, whatever the bound
abbrev pub KeepsOutcomes : Drawing → Drawing → (ℕ → ℕ) → Type 0
KeepsOutcomes drawing other image = (rules : Rules) (bound : ℕ) → OutcomesGo rules bound drawing other image

abbrev pub RenumberingKeepsOutcomes : Type 0
RenumberingKeepsOutcomes = (rules : Rules) (bound : ℕ) (drawing other : Drawing) (image : ℕ → ℕ) →
    bonds.IsSound (length drawing.atoms) drawing.bonds → IsRenumbering drawing other image →
    OutcomesGo rules bound drawing other image

-- another numbering of bonds without a fault has none
abbrev pub RenumberingsAreSound : Type 0
RenumberingsAreSound = (drawing other : Drawing) (image : ℕ → ℕ) →
    bonds.IsSound (length drawing.atoms) drawing.bonds → IsRenumbering drawing other image →
    bonds.IsSound (length other.atoms) other.bonds

-- no vertex is an end of two units, so that the image of a unit is one alone
abbrev pub UnitsShareNoEnd : Type 0
UnitsShareNoEnd = (drawing : Drawing) → bonds.IsSound (length drawing.atoms) drawing.bonds →
    (one two : units.Unit) → Among one (units_in drawing) → Among two (units_in drawing) → (vertex : ℕ) →
    Among vertex (map (λ end. end.at) (ends_of one.site)) → Among vertex (map (λ end. end.at) (ends_of two.site)) →
    one ≡ two
