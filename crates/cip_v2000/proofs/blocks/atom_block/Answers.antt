use Rattle.std.proofs.Common.{◌+◌, ◌∙◌, ap, arith}
use Rattle.std.proofs.lemmas.List.Elements.{All-push}
use Rattle.cip_text.specs.Slices.{texts}
use Rattle.cip_v2000.specs.AtomLine.{IsAtomLine}
use Rattle.cip_v2000.specs.Grammar.{atom_row}
use Rattle.cip_ctfile.proofs.lemmas.Rows.{row_read, row_refused, rows_read, length-push}
use Rattle.cip_v2000.proofs.blocks.atom_block.Goals as goal

pub returns-in-Err-clause-value : goal.returns-in-Err-clause-value
returns-in-Err-clause-value c =
    row_refused (atom_row (texts c.args.lines.now)) _ _ _ _ _ c.loop-row-test.true c.in-Err.ensures.value
    c.loop-row.invariant.so_far

pub loop-row-preserved : goal.loop-row-preserved
loop-row-preserved c = rw c.push_reserved.ensures.items (record {
  so_far = row_read (atom_row (texts c.args.lines.now)) _ _ _ _ _ c.loop-row-test.true c.in-Ok-atom_line.ensures.value
      c.loop-row.invariant.so_far;
  there = omega (arith, c.in-Ok-atom_line.ensures.there);
  counted = length-push _ _ _ c.loop-row.invariant.counted;
  range = All-push IsAtomLine _ _ c.loop-row.invariant.range c.in-Ok-atom_line.ensures.range;
  kept = c.push_reserved.ensures.len ∙ ap (λ n. n + 1) c.loop-row.invariant.kept;
  room = rw c.push_reserved.ensures.capacity c.loop-row.invariant.room;
})

pub returns-clause-value : goal.returns-clause-value
returns-clause-value c = rows_read (atom_row (texts c.args.lines.now)) _ _ _ _ c.loop-row-test.false
    c.loop-row.invariant.so_far
