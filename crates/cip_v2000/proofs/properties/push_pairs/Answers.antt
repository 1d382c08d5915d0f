use Rattle.std.proofs.Common.{ap}
use Rattle.std.specs.Option.{ok_or}
use Rattle.std.proofs.lemmas.List.Elements.{All-push}
use Rattle.cip_text.specs.Slices.{texts}
use Rattle.cip_v2000.specs.PropertyLines.{pair_row}
use Rattle.cip_v2000.specs.Statements.{IsPair}
use Rattle.cip_ctfile.proofs.lemmas.Rows.{row_read, row_refused, rows_read}
use Rattle.cip_v2000.proofs.properties.push_pairs.Goals as goal

pub returns-in_default-clause-value : goal.returns-in_default-clause-value
returns-in_default-clause-value c =
    row_refused (pair_row c.args.fault c.args.property c.args.atoms (texts c.args.words.now)) _ _ _ _ _
    c.loop-row-test.true (ap (λ o. ok_or o c.args.fault) c.in_default.ensures.value) c.loop-row.invariant.so_far

pub loop-row-preserved : goal.loop-row-preserved
loop-row-preserved c = rw c.in-Ok.ensures.items (record {
  so_far = row_read (pair_row c.args.fault c.args.property c.args.atoms (texts c.args.words.now)) _ _ _ _ _
      c.loop-row-test.true (ap (λ o. ok_or o c.args.fault) c.in-Some.ensures.value) c.loop-row.invariant.so_far;
  range = All-push IsPair _ _ c.loop-row.invariant.range c.in-Some.ensures.range;
})

pub returns-clause-value : goal.returns-clause-value
returns-clause-value c = rows_read (pair_row c.args.fault c.args.property c.args.atoms (texts c.args.words.now)) _ _ _
    _ c.loop-row-test.false c.loop-row.invariant.so_far
