-- Both outcomes of the centres of a group: by the units as they are drawn, and with the group's centres turned. CTfile
-- Formats, V3000, for the meaning of groups; that nothing else is turned is own.
use Rattle.std.specs.Prelude.{◌≡◌, ℕ, List, [], ◌∷◌, Bool, map, flat_map, Some, None}
use Rattle.std.specs.declared.option.Option.{Option}
use Rattle.std.specs.List.{find}
use Rattle.std.specs.Option.{option_map}
use Rattle.cip_mol.specs.declared.labels.outcome.Outcome.{Outcome}
use Rattle.cip_mol.specs.declared.site.Unit as units
use Rattle.cip_digraph.specs.units.Inverted.{is_centre_among, inverted}
use Rattle.cip_label.specs.Settings.{LabelContext, outcome_in}
use Rattle.cip_stereogroups.specs.declared.groups.Group.{Group}
use Rattle.cip_stereogroups.specs.declared.group_outcomes.BothOutcomes.{BothOutcomes}
use Rattle.cip_stereogroups.specs.declared.group_outcomes.GroupLine.{GroupLine}

abbrev pub is_centre_at : ℕ → units.Unit → Bool
is_centre_at atom unit = is_centre_among (atom ∷ []) unit.site

-- the centre at an atom
abbrev pub centre_at : ℕ → List units.Unit → Option units.Unit
centre_at atom all = find (is_centre_at atom) all

-- with the centres at these atoms turned
abbrev pub turned_at : List ℕ → LabelContext → LabelContext
turned_at atoms setting = record setting { units = inverted atoms setting.units }

abbrev pub IsTurned : LabelContext → LabelContext → Type 0
IsTurned drawn turned = (atoms : List ℕ) × (turned ≡ turned_at atoms drawn)

abbrev pub both_by : Option Outcome → Option Outcome → Option BothOutcomes
both_by (Some drawn) (Some turned) = Some (record { drawn = drawn; turned = turned })
both_by (Some drawn) None = None
both_by None turned = None

module _ (bound : ℕ) where
  -- what is found of the centre at an atom, where there is one
  abbrev pub outcome_at : LabelContext → ℕ → Option Outcome
  outcome_at setting atom = option_map (λ unit. outcome_in setting bound unit) (centre_at atom setting.units)

  -- as drawn, and with the centres of a group turned
  abbrev pub both : LabelContext → List ℕ → ℕ → Option BothOutcomes
  both setting atoms atom = both_by (outcome_at setting atom) (outcome_at (turned_at atoms setting) atom)

  -- a line for each atom of a group
  abbrev pub line_of : LabelContext → Group → ℕ → GroupLine
  line_of setting group atom =
      record { kind = group.kind; atom = atom; outcomes = both setting group.atoms atom }

  abbrev pub lines_of : LabelContext → Group → List GroupLine
  lines_of setting group = map (line_of setting group) group.atoms

  abbrev pub lines_of_groups : LabelContext → List Group → List GroupLine
  lines_of_groups setting groups = flat_map (lines_of setting) groups
