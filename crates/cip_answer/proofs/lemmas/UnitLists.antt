-- Units with their outcomes, one after the other.
use Rattle.std.proofs.Common.{◌≡◌, ◌<◌, ◌^◌, ◌+◌, ◌-◌, ◌++◌, ◌∷◌, ◌∙◌, [], ℕ, zero, suc, List, Some, ap, arith, length, sym, map, take, slice_get, slice_index_or}
use Rattle.std.proofs.lemmas.Grind.{common_steps}
use Rattle.std.proofs.lemmas.List.{length-map, length-take, take_more, map-append}
use Rattle.std.proofs.lemmas.Option.{get_or_from_slice_get, slice_get_within}
use Rattle.cip_mol.specs.declared.labels.outcome.Outcome.{Outcome}
use Rattle.cip_mol.specs.declared.site.Site.{Site}
use Rattle.cip_mol.specs.declared.site.Unit.{Unit}
use Rattle.cip_print.specs.Naming.{name_of}
use Rattle.cip_print.specs.declared.answer.UnitAnswer.{UnitAnswer}
use Rattle.cip_print.specs.declared.unit_name.UnitName.{UnitName}
use Rattle.cip_label.specs.Settings.{LabelContext, outcome_in}
use Rattle.cip_answer.specs.Answers.{unit_answer}

one_more : {X Y : Type 0} (f : X → Y) (ys : List Y) (xs : List X) (place : ℕ) (x : X) (y : Y) →
    ys ≡ map f (take place xs) → slice_get xs place ≡ Some x → y ≡ f x → ys ++ y ∷ [] ≡ map f (take (place + 1) xs)
one_more f ys xs place x y so_far here same =
    let taken : take (place + 1) xs ≡ take place xs ++ x ∷ [] =
    take_more xs place x (slice_get_within xs place x here)
    ∙ ap (λ z. take place xs ++ z ∷ []) (get_or_from_slice_get xs place x x here) in
    (λ k. so_far k ++ same k ∷ []) ∙ sym (map-append f (take place xs) (x ∷ [])) ∙ ap (map f) (sym taken)

slice_get_from : {X : Type 0} (xs : List X) (place : ℕ) (x : X) → place < length xs → x ≡ slice_index_or xs place x →
    slice_get xs place ≡ Some x
slice_get_from [] place x within is = absurd (omega (arith, within))
slice_get_from (y ∷ ys) zero x within is = ap Some (sym is)
slice_get_from (y ∷ ys) (suc place) x within is = slice_get_from ys place x (omega (arith, within)) is

-- n answers were given
counted : {X Y : Type 0} (f : X → Y) (ys : List Y) (xs : List X) (place : ℕ) → ys ≡ map f (take place xs) →
    place < length xs → length ys ≡ place
counted f ys xs place so_far within =
    ap length so_far ∙ length-map (take place xs) f ∙ length-take place xs ∙ grind (arith, common_steps)

-- room is left for one answer more
pub room_left : {X Y : Type 0} (f : X → Y) (ys : List Y) (xs : List X) (place : ℕ) → ys ≡ map f (take place xs) →
    place < length xs → length xs < 2 ^ 32 → length ys < 2 ^ 32 - 1
room_left f ys xs place so_far within few =
    let same : length ys ≡ place = counted f ys xs place so_far within in
    omega (arith, same, within, few)

module _ (setting : LabelContext) (bound : ℕ) where
  abbrev answered : Unit → UnitAnswer
  answered unit = unit_answer setting.rules bound setting.graph setting.positions setting.units unit

  pub has_room : (answers : List UnitAnswer) (place : ℕ) → answers ≡ map answered (take place setting.units) →
      place < length setting.units → length setting.units < 2 ^ 32 - 1 → length answers < 2 ^ 32 - 1
  has_room answers place so_far within few =
      let same : length answers ≡ place = counted answered answers setting.units place so_far within in
      omega (arith, same, within, few)

  -- as many answers as units
  pub few_answers : (answers : List UnitAnswer) → answers ≡ map answered setting.units →
      length setting.units < 2 ^ 32 - 1 → length answers < 2 ^ 32 - 1
  few_answers answers all few =
      let same : length answers ≡ length setting.units = ap length all ∙ length-map setting.units answered in
      omega (arith, same, few)

  -- one unit more
  pub next_unit : (now : ℕ) (answers : List UnitAnswer) (place : ℕ) (listed : List Unit) (unit : Unit)
      (name : UnitName) (site : Site) (drawn : ℕ) (outcome : Outcome) → answers ≡ map answered (take place setting.units) →
      place < length setting.units → listed ≡ setting.units → unit ≡ slice_index_or listed place unit →
      name ≡ name_of unit.site → site ≡ unit.site → drawn ≡ setting.graph.drawn → now ≡ bound →
      ((u : Unit) → slice_get setting.units place ≡ Some u → outcome ≡ outcome_in setting now u) →
      answers ++ record { name = name; site = site; drawn = drawn; outcome = outcome } ∷ []
      ≡ map answered (take (place + 1) setting.units)
  next_unit now answers place listed unit name site drawn outcome so_far within all is named same graph_drawn kept
      found =
      let at : slice_get setting.units place ≡ Some unit =
      slice_get_from setting.units place unit within (is ∙ ap (λ us. slice_index_or us place unit) all) in
      let outcomes : outcome ≡ outcome_in setting bound unit =
      found unit at ∙ ap (λ n. outcome_in setting n unit) kept in
      one_more answered answers setting.units place unit _ so_far at
      (λ k. record { name = named k; site = same k; drawn = graph_drawn k; outcome = outcomes k })
