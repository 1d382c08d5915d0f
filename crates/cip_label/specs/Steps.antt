-- How many steps ranking and labelling take. Own.
use Rattle.std.specs.Prelude.{◌≡◌, ◌≤◌, ◌+◌, ◌-◌, ℕ, List, map, min, sum}
use Rattle.cip_mol.specs.declared.site.Geometry.{Geometry}
use Rattle.cip_mol.specs.declared.site.Geometry.TheVariants.{Known, Unknown}
use Rattle.cip_mol.specs.declared.site.Unit as units
use Rattle.cip_digraph.specs.units.Ends.{End, ends_of}
use Rattle.cip_label.specs.Settings.{LabelContext, cost_in}

-- a step for each node that is made of each digraph, but for its root
abbrev pub most_steps : LabelContext → ℕ → List End → ℕ
most_steps setting bound ends = sum (map (λ end. min (cost_in setting end) bound - 1) ends)

pub record Rises (setting : LabelContext) (bound : ℕ) (ends : List End) (before after : ℕ) : Type 0 where
  pub later : before ≤ after
  pub few : after ≤ before + most_steps setting bound ends

-- none where a drawing shows nothing
abbrev pub LabelRises : LabelContext → ℕ → units.Unit → ℕ → ℕ → Type 0
LabelRises setting bound unit before after = by_geometry unit.geometry
  where
    by_geometry : Geometry → Type 0
    by_geometry (Unknown cause) = after ≡ before
    by_geometry (Known sense) = Rises setting bound (ends_of unit.site) before after
