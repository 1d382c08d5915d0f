use Rattle.std.proofs.Common.{◌≡◌, ◌+◌, ◌++◌, ◌∙◌, append-nil, drop, get_or, subst, sym}
use Rattle.std.specs.Prelude.{slice_get}
use Rattle.std.proofs.lemmas.List.{drop_more, drop_all}
use Rattle.cip_print.specs.Labels.{names_at, spaced_name}
use Rattle.cip_print.proofs.lemmas.Texts.{moved}
use Rattle.cip_print.proofs.label_line.push_names.Goals as goal

pub loop-place-preserved : goal.loop-place-preserved
loop-place-preserved c =
    let ligands = c.args.ligands.now in
    let places = c.args.places.now in
    let at = c.loop-place.place-index in
    let place = get_or places at 0 in
    moved c.loop-place.text.items (spaced_name c.args.drawn (slice_get ligands place))
    (names_at c.args.drawn ligands (drop (at + 1) places)) c.push_name_at.new.text.items
    (c.args.text.now.items ++ names_at c.args.drawn ligands places) c.in-Ok.ensures
    (subst (λ xs. c.loop-place.text.items ++ names_at c.args.drawn ligands xs
    ≡ c.args.text.now.items ++ names_at c.args.drawn ligands places)
    (drop_more places at 0 c.loop-place-test.true) c.loop-place.invariant)

pub returns : goal.returns
returns c =
    let ligands = c.args.ligands.now in
    sym (append-nil c.loop-place.text.items)
    ∙ subst (λ xs. c.loop-place.text.items ++ names_at c.args.drawn ligands xs
    ≡ c.args.text.now.items ++ names_at c.args.drawn ligands c.args.places.now)
    (drop_all c.loop-place.place-index c.args.places.now c.loop-place-test.false) c.loop-place.invariant
