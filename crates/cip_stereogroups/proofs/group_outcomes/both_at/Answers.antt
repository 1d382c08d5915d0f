use Rattle.std.proofs.Common.{◌≡◌, ◌∙◌, ℕ, Some, ap, sym, slice_get}
use Rattle.std.specs.List.{position}
use Rattle.cip_label.specs.Settings.{LabelContext, outcome_in}
use Rattle.cip_stereogroups.specs.Outcomes.{is_centre_at, both_by, outcome_at}
use Rattle.cip_stereogroups.proofs.lemmas.PlacedCentres.{found_placed, none_placed, place_stays, place_within}
use Rattle.cip_stereogroups.proofs.group_outcomes.both_at.Goals as goal

pub label-requires-in-Some : goal.label-requires-in-Some
label-requires-in-Some g c = record {
  place = place_within (is_centre_at c.args.atom) c.args.turned.now.units c.in-Some.place (c.in-Some.ensures.value
      ∙ sym (place_stays c.requires.turned.0 c.args.atom c.args.centres.now.units)
      ∙ ap (λ (s : LabelContext). position (is_centre_at c.args.atom) s.units) (sym c.requires.turned.1));
}

pub returns-in-None-clause-both : goal.returns-in-None-clause-both
returns-in-None-clause-both g c =
    ap (λ found. both_by found (outcome_at c.args.labeller.now c.args.turned.now c.args.atom))
    (none_placed c.args.centres.now c.args.labeller.now c.args.atom c.in-None.ensures.value)

pub returns-in-Ok-label-clause-both : goal.returns-in-Ok-label-clause-both
returns-in-Ok-label-clause-both g c =
    let place = c.in-Some.place in
    let here = c.in-Some.ensures.value in
    let there : Some place ≡ position (is_centre_at c.args.atom) c.args.turned.now.units =
    here ∙ sym (place_stays c.requires.turned.0 c.args.atom c.args.centres.now.units)
    ∙ ap (λ (s : LabelContext). position (is_centre_at c.args.atom) s.units) (sym c.requires.turned.1) in
    let drawn = found_placed c.args.centres.now c.args.labeller.now c.args.atom place c.in-Ok.drawn here
    (λ unit at. c.in-Ok.ensures.outcome unit
    (ap (λ (s : LabelContext). slice_get s.units place) c.setting.ensures ∙ at)
    ∙ ap (λ (s : LabelContext). outcome_in s c.args.labeller.now unit) c.setting.ensures) in
    let turned = found_placed c.args.turned.now c.args.labeller.now c.args.atom place c.in-Ok-label.turned there
    (λ unit at. c.in-Ok-label.ensures.outcome unit at
    ∙ ap (λ (bound : ℕ). outcome_in c.args.turned.now bound unit) c.in-Ok.ensures.kept) in
    (λ i. both_by (drawn i) (turned i))

pub returns-in-Ok-label-clause-kept : goal.returns-in-Ok-label-clause-kept
returns-in-Ok-label-clause-kept g c = c.in-Ok-label.ensures.kept ∙ c.in-Ok.ensures.kept

pub returns-in-Err-clause-kept : goal.returns-in-Err-clause-kept
returns-in-Err-clause-kept g c = c.in-Err.ensures.kept ∙ c.in-Ok.ensures.kept

pub returns-in-Err-clause-both : goal.returns-in-Err-clause-both
returns-in-Err-clause-both g c = tt

pub returns-in_default-clause-kept : goal.returns-in_default-clause-kept
returns-in_default-clause-kept g c = c.in_default.ensures.kept

pub returns-in_default-clause-both : goal.returns-in_default-clause-both
returns-in_default-clause-both g c = tt
