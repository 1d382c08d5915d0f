use Rattle.std.proofs.Common.{◌∙◌, ◌+◌, sym, ap, arith, length}
use Rattle.std.proofs.lemmas.List.{length-map}
use Rattle.cip_text.specs.Slices.{texts}
use Rattle.cip_v2000.proofs.lemmas.PropertyBlock.{pairs_end, pairs_refused, pairs_more, pairs_short}
use Rattle.cip_v2000.proofs.blocks.property_block.Goals as goal

pub returns-then-is_molecule_end-clause-value : goal.returns-then-is_molecule_end-clause-value
returns-then-is_molecule_end-clause-value c =
    pairs_end _ _ _ _ c.args.lines.now c.loop-place.place _ _ c.loop-place-test.true
    (sym c.is_molecule_end.ensures ∙ c.if-is_molecule_end.true) c.loop-place.invariant.so_far

pub returns-in-Err-clause-value : goal.returns-in-Err-clause-value
returns-in-Err-clause-value c =
    pairs_refused (length (texts c.args.lines.now) + 1) c.args.atoms c.loop-place.pairs.items c.loop-place.place
    c.args.lines.now _ c.in-Err.refusal _ c.loop-place-test.true
    (sym c.is_molecule_end.ensures ∙ c.if-is_molecule_end.false) c.in-Err.ensures.value
    c.loop-place.invariant.so_far

pub loop-place-preserved : goal.loop-place-preserved
loop-place-preserved c = record {
  so_far = pairs_more (length (texts c.args.lines.now) + 1) c.args.atoms c.loop-place.pairs.items _ c.loop-place.place
      c.args.lines.now _ _ c.loop-place-test.true
      (sym c.is_molecule_end.ensures ∙ c.if-is_molecule_end.false) c.in-Ok.ensures.value
      c.loop-place.invariant.so_far;
  within = omega (arith, c.loop-place-test.true);
  range = c.in-Ok.ensures.range;
}

pub returns-clause-value : goal.returns-clause-value
returns-clause-value c =
    rw c.missing_line_fault.ensures
    (pairs_short (length (texts c.args.lines.now) + 1) c.args.atoms c.loop-place.pairs.items c.loop-place.place
    c.args.lines.now _ c.loop-place-test.false
    (ap (λ n. n + 1) (length-map c.args.lines.now (λ line. line.now))) c.loop-place.invariant.so_far)
