use Rattle.std.proofs.Common.{◌≡◌, ◌∙◌, arith, false, sym, true}
use Rattle.std.specs.Prelude.{Some, slice_get}
use Rattle.std.proofs.lemmas.Result.{IfOk-weaker}
use Rattle.cip_mol.specs.declared.labels.outcome.Outcome.{Outcome}
use Rattle.cip_mol.specs.declared.site.Unit as units
use Rattle.cip_digraph.specs.units.DrawnUnits.{units_in}
use Rattle.cip_label.specs.Settings.{outcome_in, setting_in}
use Rattle.cip_edit.specs.FoundCentres.{found_at}
use Rattle.cip_edit.proofs.lemmas.CentrePlaces.{none_listed, outcome_found, within_list}
use Rattle.cip_edit.proofs.centres.find_centre.find_centre.Goals as goal

pub overflow_cast-place : goal.overflow_cast-place
overflow_cast-place g c =
    let within =
    within_list c.args.drawn.now c.list.result.now (c.list.ensures ∙ c.units.ensures.value) c.args.atom c.in-Some.place
    (sym c.in-Some.ensures) in
    let few = c.units.ensures.fit.few in
    omega (arith, within, few)

pub find_at-requires : goal.find_at-requires
find_at-requires g c = record {
  place = within_list c.args.drawn.now c.list.result.now (c.list.ensures ∙ c.units.ensures.value) c.args.atom
      c.in-Some.place (sym c.in-Some.ensures);
}

pub unreachable-requires : goal.unreachable-requires
unreachable-requires g c =
    let none =
    none_listed c.args.drawn.now c.list.result.now (c.list.ensures ∙ c.units.ensures.value) c.args.atom
    (sym c.in-None.ensures) in
    let bad : false ≡ true = sym none ∙ c.requires in cc

pub returns-clause-found : goal.returns-clause-found
returns-clause-found g c =
    let drawing = c.args.drawn.now in
    IfOk-weaker c.find_at.result
    (λ (outcome : Outcome). (u : units.Unit) → slice_get (units_in drawing) c.in-Some.place ≡ Some u
    → outcome ≡ outcome_in (setting_in c.args.rules drawing) c.args.labeller.now u)
    (λ outcome. outcome ≡ found_at c.args.rules c.args.labeller.now drawing c.args.atom)
    (outcome_found drawing c.list.result.now (c.list.ensures ∙ c.units.ensures.value) c.args.atom c.in-Some.place
    (sym c.in-Some.ensures) c.args.rules c.args.labeller.now)
    c.find_at.ensures.outcome
