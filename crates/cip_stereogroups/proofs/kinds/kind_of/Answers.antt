use Rattle.std.proofs.Common.{◌∙◌, ap, arith, false, refl, sym, true}
use Rattle.std.specs.Str.{bytes_eq}
use Rattle.std.proofs.lemmas.List.{take_rest}
use Rattle.cip_stereogroups.specs.Names.{racemic_by, relative_by}
use Rattle.cip_stereogroups.proofs.lemmas.KindWords.{named, racemic_with, relative_with}
use Rattle.cip_stereogroups.proofs.kinds.kind_of.Goals as goal

pub returns-then-eq : goal.returns-then-eq
returns-then-eq c =
    named c.args.word.now true _ _
    (ap (bytes_eq c.args.word.now) (sym c.as_slice.ensures) ∙ sym c.eq.ensures ∙ c.if-eq.true) refl refl

pub returns-in-Ok : goal.returns-in-Ok
returns-in-Ok c =
    ap racemic_with c.in-Ok.ensures
    ∙ ap racemic_by (take_rest c.args.word.now 13)
    ∙ named c.args.word.now false true _
    (ap (bytes_eq c.args.word.now) (sym c.as_slice.ensures) ∙ sym c.eq.ensures ∙ c.if-eq.false)
    (sym c.starts_with.ensures.value ∙ c.if-starts_with.true) refl

pub returns-in-Err : goal.returns-in-Err
returns-in-Err c =
    ap racemic_with c.in-Err.ensures
    ∙ ap racemic_by (take_rest c.args.word.now 13)
    ∙ named c.args.word.now false true _
    (ap (bytes_eq c.args.word.now) (sym c.as_slice.ensures) ∙ sym c.eq.ensures ∙ c.if-eq.false)
    (sym c.starts_with.ensures.value ∙ c.if-starts_with.true) refl

pub returns-in-Ok-number_of : goal.returns-in-Ok-number_of
returns-in-Ok-number_of c =
    ap relative_with c.in-Ok-number_of.ensures
    ∙ ap relative_by (take_rest c.args.word.now 13)
    ∙ named c.args.word.now false false true
    (ap (bytes_eq c.args.word.now) (sym c.as_slice.ensures) ∙ sym c.eq.ensures ∙ c.if-eq.false)
    (sym c.starts_with.ensures.value ∙ c.if-starts_with.false)
    (sym c.starts_with-else-starts_with.ensures.value ∙ c.if-starts_with-2.true)

pub returns-in-Err-number_of : goal.returns-in-Err-number_of
returns-in-Err-number_of c =
    ap relative_with c.in-Err-number_of.ensures
    ∙ ap relative_by (take_rest c.args.word.now 13)
    ∙ named c.args.word.now false false true
    (ap (bytes_eq c.args.word.now) (sym c.as_slice.ensures) ∙ sym c.eq.ensures ∙ c.if-eq.false)
    (sym c.starts_with.ensures.value ∙ c.if-starts_with.false)
    (sym c.starts_with-else-starts_with.ensures.value ∙ c.if-starts_with-2.true)

pub returns-else-starts_with-2 : goal.returns-else-starts_with-2
returns-else-starts_with-2 c =
    named c.args.word.now false false false
    (ap (bytes_eq c.args.word.now) (sym c.as_slice.ensures) ∙ sym c.eq.ensures ∙ c.if-eq.false)
    (sym c.starts_with.ensures.value ∙ c.if-starts_with.false)
    (sym c.starts_with-else-starts_with.ensures.value ∙ c.if-starts_with-2.false)

pub slice_bounds-number_of-count : goal.slice_bounds-number_of-count
slice_bounds-number_of-count c = omega (arith, c.starts_with.ensures.bound c.if-starts_with.true)

pub slice_bounds-number_of-start : goal.slice_bounds-number_of-start
slice_bounds-number_of-start c = omega (arith, c.starts_with.ensures.bound c.if-starts_with.true)

pub slice_bounds-number_of-count-then-starts_with-2 : goal.slice_bounds-number_of-count-then-starts_with-2
slice_bounds-number_of-count-then-starts_with-2 c =
    omega (arith, c.starts_with-else-starts_with.ensures.bound c.if-starts_with-2.true)

pub slice_bounds-number_of-start-then-starts_with-2 : goal.slice_bounds-number_of-start-then-starts_with-2
slice_bounds-number_of-start-then-starts_with-2 c =
    omega (arith, c.starts_with-else-starts_with.ensures.bound c.if-starts_with-2.true)
