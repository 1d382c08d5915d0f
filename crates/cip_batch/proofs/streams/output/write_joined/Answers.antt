use Rattle.std.proofs.Common.{rules, ◌≡◌, ◌<◌, ◌+◌, [], length, get_or, subst, ◌∙◌}
use Rattle.cip_batch.specs.Batches.{output_of}
use Rattle.cip_batch.proofs.lemmas.Batches.{IsJoined, all_told, all_written, none_joined, one_joined, stopped_at, stopped_behind, told_here}
use Rattle.cip_batch.proofs.lemmas.Faults.{later_twice, rose_later, stays}
use Rattle.cip_batch.proofs.streams.output.write_joined.Goals as goal

pub returns-in-Err-clause-stopped : goal.returns-in-Err-clause-stopped
returns-in-Err-clause-stopped g c =
    let k = c.loop-one.one-index in
    let found = c.args.found.now in
    λ expected number records all.
    let within : k < length found = search rules in
    let here : c.one-item.result ≡ output_of expected (number + k) (get_or records k []) =
    c.one-item.is ∙ told_here expected number records found k c.one-item.result all within in
    (stopped_at expected number records found k c.one-item.result c.loop-one.verdict
    c.loop-one.joined _ _ _ all within here (c.loop-one.invariant.so_far expected number records all)
    c.in-Err.ensures.prefix)

pub loop-one-init : goal.loop-one-init
loop-one-init g c = record {
  so_far = λ expected number records all. rw (c.clear-verdict.ensures, c.requires)
      (none_joined expected number records (g.K.Sink.taken c.args.sink.now));
  later = stays (g.K.Sink.faults c.args.sink.now);
}

pub loop-one-preserved : goal.loop-one-preserved
loop-one-preserved g c = record {
  so_far = λ expected number records all.
      let k = c.loop-one.one-index in
      let found = c.args.found.now in
      let within : k < length found = search rules in
      let here : c.one-item.result ≡ output_of expected (number + k) (get_or records k []) =
      c.one-item.is ∙ told_here expected number records found k c.one-item.result all within in
      rw (c.and-verdict.ensures, c.in-Ok.ensures.verdict)
      (one_joined expected number records found k c.one-item.result c.loop-one.verdict
      c.loop-one.joined c.push_text.new.joined _ _ _ all within here
      (c.loop-one.invariant.so_far expected number records all) c.in-Ok.ensures.taken);
  later = later_twice _ _ _ c.loop-one.invariant.later c.push_text.ensures.cause.later;
}

pub returns-in-Err-flush-clause-stopped : goal.returns-in-Err-flush-clause-stopped
returns-in-Err-flush-clause-stopped g c =
    let found = c.args.found.now in
    let done : c.loop-one.one-index ≡ length found = search rules in
    λ expected number records all.
    let before : IsJoined expected number records (length found) c.loop-one.verdict c.loop-one.joined
    (g.K.Sink.taken c.args.sink.now) (g.K.Sink.taken c.loop-one.sink) =
    subst (λ k. IsJoined expected number records k c.loop-one.verdict c.loop-one.joined
    (g.K.Sink.taken c.args.sink.now) (g.K.Sink.taken c.loop-one.sink)) done
    (c.loop-one.invariant.so_far expected number records all) in
    (stopped_behind expected number records found c.loop-one.verdict
    c.loop-one.joined _ _ _ all before c.in-Err-flush.ensures.prefix)

pub returns-in-Ok-flush-clause-output : goal.returns-in-Ok-flush-clause-output
returns-in-Ok-flush-clause-output g c =
    let found = c.args.found.now in
    let done : c.loop-one.one-index ≡ length found = search rules in
    λ expected number records all. all_told expected number records found c.loop-one.verdict c.loop-one.joined _ _ all
    (subst (λ k. IsJoined expected number records k c.loop-one.verdict c.loop-one.joined
    (g.K.Sink.taken c.args.sink.now) (g.K.Sink.taken c.loop-one.sink)) done
    (c.loop-one.invariant.so_far expected number records all))

pub returns-in-Ok-flush-clause-written : goal.returns-in-Ok-flush-clause-written
returns-in-Ok-flush-clause-written g c =
    let found = c.args.found.now in
    let done : c.loop-one.one-index ≡ length found = search rules in
    λ expected number records all. all_written expected number records found c.loop-one.verdict c.loop-one.joined _ _ _ all
    (subst (λ k. IsJoined expected number records k c.loop-one.verdict c.loop-one.joined
    (g.K.Sink.taken c.args.sink.now) (g.K.Sink.taken c.loop-one.sink)) done
    (c.loop-one.invariant.so_far expected number records all)) c.in-Ok-flush.ensures.whole

pub returns-in-Err-clause-cause : goal.returns-in-Err-clause-cause
returns-in-Err-clause-cause g c = record {
  later = later_twice _ _ _ c.loop-one.invariant.later c.push_text.ensures.cause.later;
  failed = rose_later _ _ _ c.loop-one.invariant.later c.in-Err.ensures.cause.failed;
}

pub returns-in-Err-flush-clause-cause : goal.returns-in-Err-flush-clause-cause
returns-in-Err-flush-clause-cause g c = record {
  later = later_twice _ _ _ c.loop-one.invariant.later c.flush.ensures.cause.later;
  failed = rose_later _ _ _ c.loop-one.invariant.later c.in-Err-flush.ensures.cause.failed;
}

pub returns-in-Ok-flush-clause-cause : goal.returns-in-Ok-flush-clause-cause
returns-in-Ok-flush-clause-cause g c = record {
  later = later_twice _ _ _ c.loop-one.invariant.later c.flush.ensures.cause.later;
  failed = tt;
}
