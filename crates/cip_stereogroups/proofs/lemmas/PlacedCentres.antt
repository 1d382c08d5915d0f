-- What is found of a centre by its place among the units.
use Rattle.std.proofs.Common.{◌≡◌, ◌<◌, ◌+◌, ℕ, zero, suc, List, [], ◌∷◌, Option, Some, None, Bool, not, refl, sym, ap, ◌∙◌, cond, length, slice_get, nat_lt, arith}
use Rattle.std.specs.List.{find, position, position_or_len}
use Rattle.std.specs.Option.{option_map}
use Rattle.std.proofs.lemmas.Bool.{ltb-true, ltb-false}
use Rattle.std.proofs.lemmas.List.{length-map}
use Rattle.std.proofs.lemmas.List.Folds.{find_at}
use Rattle.std.proofs.lemmas.Option.{slice_get_past}
use Rattle.cip_mol.specs.declared.labels.outcome.Outcome.{Outcome}
use Rattle.cip_mol.specs.declared.site.Unit as units
use Rattle.cip_digraph.specs.units.Inverted.{inverted, inverted_unit}
use Rattle.cip_label.specs.Settings.{LabelContext, outcome_in}
use Rattle.cip_stereogroups.specs.Outcomes.{is_centre_at, outcome_at}
use Rattle.cip_stereogroups.proofs.lemmas.GroupLines.{placed_by, unplaced_by}

there : {X : Type 0} (xs : List X) (i : ℕ) → i < length xs → (x : X) × (slice_get xs i ≡ Some x)
there [] i lt = absurd (omega (arith, lt))
there (x ∷ xs) zero lt = (x, refl)
there (x ∷ xs) (suc i) lt = there xs i (omega (arith, lt))

pub place_within : {X : Type 0} (test : X → Bool) (xs : List X) (place : ℕ) → Some place ≡ position test xs
    → place < length xs
place_within test xs place is =
    let p = placed_by (nat_lt (position_or_len test xs) (length xs)) (position_or_len test xs) place is in
    let lt = ltb-true (position_or_len test xs) (length xs) p.0 in
    let same = p.1 in
    omega (arith, lt, same)

-- the first one that passes
found_at : {X : Type 0} (test : X → Bool) (xs : List X) (place : ℕ) → Some place ≡ position test xs
    → find test xs ≡ slice_get xs place
found_at test xs place is =
    let p = placed_by (nat_lt (position_or_len test xs) (length xs)) (position_or_len test xs) place is in
    find_at test xs ∙ ap (slice_get xs) (sym p.1)

missing : {X : Type 0} (test : X → Bool) (xs : List X) → None ≡ position test xs → find test xs ≡ None
missing test xs is =
    let le = ltb-false (position_or_len test xs) (length xs)
    (unplaced_by (nat_lt (position_or_len test xs) (length xs)) (position_or_len test xs) is) in
    find_at test xs ∙ slice_get_past xs (position_or_len test xs) le

-- turned centres are where they were

first_stays : (atoms : List ℕ) (atom : ℕ) (all : List units.Unit)
    → position_or_len (is_centre_at atom) (inverted atoms all) ≡ position_or_len (is_centre_at atom) all
first_stays atoms atom [] = refl
first_stays atoms atom (unit ∷ all) =
    ap (λ n. cond (not (is_centre_at atom unit)) (1 + n) 0) (first_stays atoms atom all)

pub place_stays : (atoms : List ℕ) (atom : ℕ) (all : List units.Unit)
    → position (is_centre_at atom) (inverted atoms all) ≡ position (is_centre_at atom) all
place_stays atoms atom all =
    (λ i. cond (nat_lt (first_stays atoms atom all i) (length-map all (inverted_unit atoms) i))
    (Some (first_stays atoms atom all i)) None)

module _ (setting : LabelContext) (bound atom : ℕ) where
  abbrev of_found : Option units.Unit → Option Outcome
  of_found found = option_map (λ unit. outcome_in setting bound unit) found

  pub found_placed : (place : ℕ) (outcome : Outcome) → Some place ≡ position (is_centre_at atom) setting.units
      → ((unit : units.Unit) → slice_get setting.units place ≡ Some unit → outcome ≡ outcome_in setting bound unit)
      → Some outcome ≡ outcome_at bound setting atom
  found_placed place outcome is tells =
      let unit = there setting.units place (place_within (is_centre_at atom) setting.units place is) in
      (λ i. Some (tells unit.0 unit.1 i))
      ∙ sym (ap of_found (found_at (is_centre_at atom) setting.units place is ∙ unit.1))

  pub none_placed : None ≡ position (is_centre_at atom) setting.units → None ≡ outcome_at bound setting atom
  none_placed is = sym (ap of_found (missing (is_centre_at atom) setting.units is))
