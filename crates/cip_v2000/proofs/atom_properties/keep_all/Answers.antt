use Rattle.std.proofs.Common.{◌+◌, ◌∙◌, ap, length, map}
use Rattle.std.proofs.lemmas.List.{take_all}
use Rattle.std.proofs.lemmas.List.Elements.{All-push}
use Rattle.cip_mol.specs.Ranges.{IsAtom}
use Rattle.cip_ctfile.proofs.lemmas.Rows.{length-push}
use Rattle.cip_v2000.specs.Statements.{kept}
use Rattle.cip_v2000.proofs.lemmas.Stated.{mapped_more}
use Rattle.cip_v2000.proofs.atom_properties.keep_all.Goals as goal

pub loop-line-preserved : goal.loop-line-preserved
loop-line-preserved c = record {
  so_far = c.push_reserved.ensures.items
      ∙ mapped_more (kept c.args.charges c.args.isotopes) c.args.lines.now c.loop-line.line-index _ _ _
      c.loop-line-test.true c.loop-line.invariant.so_far c.keep.ensures.value;
  counted = ap length c.push_reserved.ensures.items ∙ length-push _ _ _ c.loop-line.invariant.counted;
  range = rw c.push_reserved.ensures.items
      (All-push IsAtom _ _ c.loop-line.invariant.range c.keep.ensures.range);
  kept = c.push_reserved.ensures.len ∙ ap (λ n. n + 1) c.loop-line.invariant.kept;
  room = rw c.push_reserved.ensures.capacity c.loop-line.invariant.room;
}

pub returns-clause-value : goal.returns-clause-value
returns-clause-value c =
    c.loop-line.invariant.so_far
    ∙ ap (map (kept c.args.charges c.args.isotopes))
    (take_all c.loop-line.line-index c.args.lines.now c.loop-line-test.false)
