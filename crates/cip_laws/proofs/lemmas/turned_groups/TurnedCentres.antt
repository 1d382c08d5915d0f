-- The centres of groups, as drawn and turned.
use Rattle.std.proofs.Common.{◌≡◌, ℕ, List, [], ◌∷◌, Option, Some, None, Bool, true, false, cond, refl, sym, ap, subst, ◌∙◌}
use Rattle.std.specs.Option.{option_map}
use Rattle.cip_mol.specs.declared.site.Unit as units
use Rattle.cip_digraph.specs.units.Inverted.{inverted, inverted_unit}
use Rattle.cip_digraph.specs.units.InversionLaws.{HoldEachCentre, IsHeld}
use Rattle.cip_digraph.proofs.lemmas.reflected.Inversions.{units_turned_back, whole_inversions_mirror}
use Rattle.cip_label.specs.Settings.{LabelContext, outcome_in}
use Rattle.cip_stereogroups.specs.Laws.{AreMirrored, both_of, BothAreOfOneCentre, TurnedTwiceIsDrawn, WholeGroupsMirror}
use Rattle.cip_stereogroups.specs.Outcomes.{is_centre_at, centre_at, turned_at, outcome_at, both, both_by}

abbrev turned : List ℕ → Option units.Unit → Option units.Unit
turned atoms unit = option_map (inverted_unit atoms) unit

-- turned centres are where they were
centre_turned : (atoms : List ℕ) (atom : ℕ) (all : List units.Unit) →
    centre_at atom (inverted atoms all) ≡ turned atoms (centre_at atom all)
centre_turned atoms atom [] = refl
centre_turned atoms atom (unit ∷ others) =
    ap (cond (is_centre_at atom unit) (Some (inverted_unit atoms unit))) (centre_turned atoms atom others)
    ∙ by (is_centre_at atom unit)
  where
    by : (here : Bool) → cond here (Some (inverted_unit atoms unit)) (turned atoms (centre_at atom others))
        ≡ turned atoms (cond here (Some unit) (centre_at atom others))
    by true = refl
    by false = refl

-- each of them is held
found_held : (atoms : List ℕ) (atom : ℕ) (all : List units.Unit) → HoldEachCentre atoms all → (unit : units.Unit) →
    centre_at atom all ≡ Some unit → IsHeld atoms unit.site
found_held atoms atom [] held unit is = absurd cc
found_held atoms atom (other ∷ others) held unit is =
    by (is_centre_at atom other) (found_held atoms atom others held.1) is
  where
    by : (here : Bool) → ((u : units.Unit) → centre_at atom others ≡ Some u → IsHeld atoms u.site) →
        cond here (Some other) (centre_at atom others) ≡ Some unit → IsHeld atoms unit.site
    by true rest e = let same : other ≡ unit = cc in subst (λ (u : units.Unit). IsHeld atoms u.site) same held.0
    by false rest e = rest unit e

module _ (bound : ℕ) (setting : LabelContext) (atoms : List ℕ) where
  both_found : (found : Option units.Unit) →
      both_by (option_map (λ unit. outcome_in setting bound unit) found)
      (option_map (λ unit. outcome_in (turned_at atoms setting) bound unit) (turned atoms found))
      ≡ both_of bound setting atoms found
  both_found None = refl
  both_found (Some unit) = refl

  both_is : (atom : ℕ) → both bound setting atoms atom ≡ both_of bound setting atoms (centre_at atom setting.units)
  both_is atom =
      ap (λ found. both_by (outcome_at bound setting atom)
      (option_map (λ unit. outcome_in (turned_at atoms setting) bound unit) found))
      (centre_turned atoms atom setting.units)
      ∙ both_found (centre_at atom setting.units)

  mirrored_by : HoldEachCentre atoms setting.units → (found : Option units.Unit)
      → ((unit : units.Unit) → found ≡ Some unit → IsHeld atoms unit.site)
      → AreMirrored (both_of bound setting atoms found)
  mirrored_by held None own = tt
  mirrored_by held (Some unit) own =
      whole_inversions_mirror setting.rules setting.graph setting.positions atoms setting.units bound unit held
      (own unit refl)

pub both_are_of_one_centre : BothAreOfOneCentre
both_are_of_one_centre bound setting atoms atom = both_is bound setting atoms atom

pub turned_twice_is_drawn : TurnedTwiceIsDrawn
turned_twice_is_drawn bound setting atoms atom =
    ap (λ all. outcome_at bound (record setting { units = all }) atom) (units_turned_back atoms setting.units)

pub whole_groups_mirror : WholeGroupsMirror
whole_groups_mirror bound setting atoms atom held =
    subst AreMirrored (sym (both_is bound setting atoms atom))
    (mirrored_by bound setting atoms held (centre_at atom setting.units) (found_held atoms atom setting.units held))
