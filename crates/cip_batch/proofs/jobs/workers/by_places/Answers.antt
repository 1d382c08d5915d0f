use Rattle.std.proofs.Common.{◌++◌, drop, length, IfSome, refl, subst, sym}
use Rattle.std.proofs.lemmas.List.Elements.{All-append, All-drop, All-take}
use Rattle.cip_batch.specs.Entries.{ArePlaced, IsAnswer}
use Rattle.cip_batch.proofs.jobs.workers.by_places.Goals as goal

pub returns-in_default : goal.returns-in_default
returns-in_default g c = record { found = tt; workers = refl }

pub returns-in-Err : goal.returns-in-Err
returns-in-Err g c = record { found = tt; workers = c.put_each.ensures.workers }

pub returns-in-Ok-put_each-clause-workers : goal.returns-in-Ok-put_each-clause-workers
returns-in-Ok-put_each-clause-workers g c = c.put_each.ensures.workers

pub returns-in-Ok-put_each-clause-found : goal.returns-in-Ok-put_each-clause-found
returns-in-Ok-put_each-clause-found g c =
    let answer = g.J.Job.answer in
    let jobs = c.args.jobs.now in
    let before = c.in-Ok.found in
    let now = c.put_each.new.found in
    All-take (λ s. IfSome s (IsAnswer answer jobs)) before.len (now ++ drop (length now) before.items)
    (All-append (λ s. IfSome s (IsAnswer answer jobs)) now _ c.in-Ok-put_each.ensures.found
    (All-drop (λ s. IfSome s (IsAnswer answer jobs)) (length now) before.items c.in-Ok.ensures))

pub put_each-requires-clause-found : goal.put_each-requires-clause-found
put_each-requires-clause-found g c κs within =
    subst (ArePlaced g.J.Job.answer c.args.jobs.now) (sym c.deref_mut.ensures.value) c.in-Ok.ensures

pub put_each-requires-clause-workers : goal.put_each-requires-clause-workers
put_each-requires-clause-workers g c κs within = c.requires
