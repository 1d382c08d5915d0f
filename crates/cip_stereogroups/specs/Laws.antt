-- What holds of the groups of a record, and of both outcomes of a centre. Own.
use Rattle.std.specs.Prelude.{◌≡◌, ℕ, List, ◌++◌, Some, None, Err}
use Rattle.std.specs.declared.option.Option.{Option}
use Rattle.cip_mol.specs.declared.site.Unit as units
use Rattle.cip_digraph.specs.Laws.{IsReflectedOutcome}
use Rattle.cip_digraph.specs.units.Inverted.{inverted_unit}
use Rattle.cip_digraph.specs.units.InversionLaws.{HoldEachCentre}
use Rattle.cip_label.specs.Settings.{LabelContext, outcome_in}
use Rattle.cip_v3000.specs.JoinedLines.{LogicalLine}
use Rattle.cip_stereogroups.specs.declared.collection_blocks.GroupBuilder.{GroupBuilder}
use Rattle.cip_stereogroups.specs.declared.faults.GroupFault.{GroupFault}
use Rattle.cip_stereogroups.specs.declared.group_outcomes.BothOutcomes.{BothOutcomes}
use Rattle.cip_stereogroups.specs.Collections.{groups_from}
use Rattle.cip_stereogroups.specs.Outcomes.{centre_at, turned_at, outcome_at, both}

-- the first line with a cause decides, whatever follows it
abbrev pub FirstCausesDecide : Type 0
FirstCausesDecide =
    (indices : List ℕ) (found : GroupBuilder) (lines more : List LogicalLine) (fault : GroupFault) →
    groups_from indices found lines ≡ Err fault → groups_from indices found (lines ++ more) ≡ Err fault

abbrev pub AreMirrored : Option BothOutcomes → Type 0
AreMirrored None = Unit {0}
AreMirrored (Some both) = IsReflectedOutcome both.drawn both.turned

-- A group that holds every centre of a record without axes stands for it and its mirror image.
abbrev pub WholeGroupsMirror : Type 0
WholeGroupsMirror =
    (bound : ℕ) (setting : LabelContext) (atoms : List ℕ) (atom : ℕ) →
    HoldEachCentre atoms setting.units → AreMirrored (both bound setting atoms atom)

-- Turned twice, each centre has its outcome as drawn.
abbrev pub TurnedTwiceIsDrawn : Type 0
TurnedTwiceIsDrawn =
    (bound : ℕ) (setting : LabelContext) (atoms : List ℕ) (atom : ℕ) →
    outcome_at bound (turned_at atoms (turned_at atoms setting)) atom ≡ outcome_at bound setting atom

-- both are those of the centre at the atom, as drawn and turned
abbrev pub both_of : ℕ → LabelContext → List ℕ → Option units.Unit → Option BothOutcomes
both_of bound setting atoms None = None
both_of bound setting atoms (Some unit) = Some (record {
  drawn = outcome_in setting bound unit;
  turned = outcome_in (turned_at atoms setting) bound (inverted_unit atoms unit);
})

abbrev pub BothAreOfOneCentre : Type 0
BothAreOfOneCentre =
    (bound : ℕ) (setting : LabelContext) (atoms : List ℕ) (atom : ℕ) →
    both bound setting atoms atom ≡ both_of bound setting atoms (centre_at atom setting.units)
