use Rattle.std.proofs.Common.{◌≡◌, ◌∙◌, ap, cond, false, sym, arith}
use Rattle.cip_num.specs.Around.{has_coincident}
use Rattle.cip_mol.specs.Marks.{has_mark}
use Rattle.cip_mol.specs.declared.site.Cause.TheVariants.{Coincident}
use Rattle.cip_mol.specs.declared.site.Geometry.TheVariants.{Unknown}
use Rattle.cip_orient.specs.OrderedMarks.{by_order}
use Rattle.cip_orient.proofs.lemmas.NoMarks.{shows_none}
use Rattle.std.proofs.lemmas.Grind.{common_steps}
use Rattle.cip_orient.proofs.flat_centre.show_in_plane.Goals as goal

pub returns-else-has_mark : goal.returns-else-has_mark
returns-else-has_mark c =
    let directions = c.args.directions.now in
    let marks = c.args.marks.now in
    let clear : has_coincident directions ≡ false = sym c.has_coincident.ensures ∙ c.if-has_coincident.false in
    let unmarked : has_mark marks ≡ false = sym c.has_mark.ensures ∙ c.if-has_mark.false in
    sym (ap (λ b. cond b (Unknown Coincident) (by_order directions marks)) clear ∙ shows_none directions marks unmarked)

pub show_by_places-requires-clause-few : goal.show_by_places-requires-clause-few
show_by_places-requires-clause-few c = rw c.as_slice.ensures.value c.as_slice.ensures.few

pub returns-then-has_mark : goal.returns-then-has_mark
returns-then-has_mark c =
    let directions = c.args.directions.now in
    let marks = c.args.marks.now in
    let clear : has_coincident directions ≡ false = sym c.has_coincident.ensures ∙ c.if-has_coincident.false in
    let shown : c.show_by_places.result ≡ by_order directions marks =
    rw (c.as_slice.ensures.value, c.places-places.ensures, c.is_reentrant.ensures) at c.show_by_places.ensures in
    shown ∙ sym (ap (λ b. cond b (Unknown Coincident) (by_order directions marks)) clear)

pub show_by_places-requires-clause-marks : goal.show_by_places-requires-clause-marks
show_by_places-requires-clause-marks c = grind (arith, common_steps)
