use Rattle.std.proofs.Common.{◌∙◌, ap, sym, take, arith}
use Rattle.std.proofs.lemmas.Grind.{common_steps}
use Rattle.std.specs.List.{position}
use Rattle.cip_mol.specs.declared.site.Unit as units
use Rattle.cip_stereogroups.specs.Outcomes.{is_centre_at}
use Rattle.cip_stereogroups.specs.Places.{or_here}
use Rattle.cip_stereogroups.proofs.lemmas.NotedPlaces.{place_more}
use Rattle.cip_stereogroups.proofs.centre_index.places_of.Goals as goal

pub loop-place-preserved : goal.loop-place-preserved
loop-place-preserved c = λ atom.
    let place = c.loop-place.place in
    let unit = c.index-units-place.result in
    c.in-Ok.ensures atom
    ∙ ap (λ found. or_here found (is_centre_at atom unit) place) (c.loop-place.invariant atom)
    ∙ ap (λ (one : units.Unit). or_here (position (is_centre_at atom) (take place c.args.units.now))
    (is_centre_at atom one) place) c.index-units-place.is
    ∙ sym (place_more (is_centre_at atom) c.args.units.now place unit (omega arith))

pub returns : goal.returns
returns c = grind (arith, common_steps)
