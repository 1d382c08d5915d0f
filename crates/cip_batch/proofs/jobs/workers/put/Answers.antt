use Rattle.std.proofs.Common.{IfSome, Some, arith}
use Rattle.std.proofs.lemmas.List.Elements.{All-set}
use Rattle.std.proofs.lemmas.Grind.{common_steps}
use Rattle.cip_batch.specs.Entries.{IsAnswer}
use Rattle.cip_batch.proofs.jobs.workers.put.Goals as goal

pub returns-then-place-found : goal.returns-then-place-found
returns-then-place-found g c =
    All-set (λ s. IfSome s (IsAnswer g.J.Job.answer c.args.jobs.now)) c.args.found.now c.args.entry.place
    (Some c.args.entry) c.requires.entry c.requires.found

pub offset_bounds-found-place : goal.offset_bounds-found-place
offset_bounds-found-place g c = grind (arith, common_steps)
