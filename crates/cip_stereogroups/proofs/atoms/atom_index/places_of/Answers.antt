use Rattle.std.proofs.Common.{◌∙◌, ap, sym, nat_eq, arith}
use Rattle.std.proofs.lemmas.Grind.{common_steps}
use Rattle.std.specs.Prelude.{slice_index}
use Rattle.cip_stereogroups.specs.Places.{or_here}
use Rattle.cip_stereogroups.proofs.lemmas.NotedPlaces.{place_more}
use Rattle.cip_stereogroups.proofs.atoms.atom_index.places_of.Goals as goal

pub loop-place-preserved : goal.loop-place-preserved
loop-place-preserved c = λ other.
    let place = c.loop-place.place in
    let all = c.args.indices.now in
    c.in-Ok.ensures other
    ∙ ap (λ found. or_here found (nat_eq other (slice_index all place)) place) (c.loop-place.invariant other)
    ∙ sym (place_more (nat_eq other) all place _ (omega arith))
