use Rattle.std.proofs.Common.{◌<◌, ap, arith, subst}
use Rattle.cip_commands.specs.declared.series.LabelledSeries.{LabelledSeries}
use Rattle.cip_commands.proofs.trial.count_batches.Goals as goal

pub overflow_add-done : goal.overflow_add-done
overflow_add-done g c =
    let same = ap (λ (trial : LabelledSeries). trial.series.records) c.trial.view_is in
    omega (arith, c.in-Ok.ensures.within, same, c.trial.invariant.below)

pub count_batch-requires-clause-within : goal.count_batch-requires-clause-within
count_batch-requires-clause-within g c κs within =
    subst (λ (trial : LabelledSeries). c.loop-done.done < trial.series.records) c.trial.view_is c.loop-done-test.true
