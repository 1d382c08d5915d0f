use Rattle.std.proofs.Common.{◌≡◌, ◌<◌, ◌^◌, ◌++◌, ◌∷◌, [], Err, refl, subst, sym, ap, ◌∙◌}
use Rattle.cip_frame.specs.Framing.{Framing}
use Rattle.cip_batch.specs.Batches.{Advances, Answers}
use Rattle.cip_batch.proofs.lemmas.Batches.{advances_both, all_taken, fewer_wait, next_taken, none_yet, room_for_one, same_next, short_by, stopped_both}
use Rattle.cip_batch.proofs.lemmas.Faults.{later_twice, rose_later, stays, told_no_fault}
use Rattle.cip_batch.proofs.jobs.batch.process_complete_records.Goals as goal

pub loop-next-init : goal.loop-next-init
loop-next-init g c =
    let batch = c.args.batch.now in
    record {
      so_far = rw c.clear-verdict.ensures (none_yet (g.T.RecordProcessor.expected batch.processor) batch.first
          (batch.records ++ c.args.framer.now.waiting) (g.K.Sink.taken c.args.sink.now));
      room = c.requires.room;
      processor = refl;
      rest = refl;
      later = stays (g.K.Sink.faults c.args.sink.now);
    }

pub returns-in-Err : goal.returns-in-Err
returns-in-Err g c =
    let batch = c.args.batch.now in
    let expected = g.T.RecordProcessor.expected batch.processor in
    let records = batch.records ++ c.args.framer.now.waiting in
    let now = c.loop-next.batch in
    let bytes = c.in-Some.next.bytes in
    let rest = c.next.new.self.waiting in
    let before = next_taken expected batch.first now.first records now.records c.loop-next.framer.waiting rest bytes
    c.loop-next.verdict _ _ (ap (λ (framer : Framing). framer.waiting) c.in-Some.ensures.some.1)
    c.loop-next.invariant.so_far in
    let answers = subst (λ t. Answers (g.T.RecordProcessor.expected t) now.first (now.records ++ bytes ∷ [])
    (Err c.in-Err.stop) (g.K.Sink.taken c.loop-next.sink) (g.K.Sink.taken c.take_record.new.sink))
    c.loop-next.invariant.processor c.in-Err.ensures.answered in
    record {
      answered = stopped_both expected batch.first now.first records (now.records ++ bytes ∷ []) rest
          c.loop-next.verdict c.in-Err.stop _ _ _ before answers;
      emptied = tt;
      processor = c.take_record.ensures.processor ∙ c.loop-next.invariant.processor;
      fault = λ is. rose_later _ _ _ c.loop-next.invariant.later (c.in-Err.ensures.fault is);
      later = later_twice _ _ _ c.loop-next.invariant.later c.take_record.ensures.later;
    }

pub loop-next-preserved : goal.loop-next-preserved
loop-next-preserved g c =
    let batch = c.args.batch.now in
    let expected = g.T.RecordProcessor.expected batch.processor in
    let records = batch.records ++ c.args.framer.now.waiting in
    let now = c.loop-next.batch in
    let next = c.take_record.new.batch in
    let bytes = c.in-Some.next.bytes in
    let rest = c.next.new.self.waiting in
    let before = next_taken expected batch.first now.first records now.records c.loop-next.framer.waiting rest bytes
    c.loop-next.verdict _ _ (ap (λ (framer : Framing). framer.waiting) c.in-Some.ensures.some.1)
    c.loop-next.invariant.so_far in
    let behind = subst (λ t. Advances (g.T.RecordProcessor.expected t) now.first (now.records ++ bytes ∷ []) next.first
    next.records c.in-Ok.answered (g.K.Sink.taken c.loop-next.sink) (g.K.Sink.taken c.take_record.new.sink))
    c.loop-next.invariant.processor c.in-Ok.ensures.answered in
    let so_far = advances_both expected batch.first now.first next.first records (now.records ++ bytes ∷ []) rest
    next.records c.loop-next.verdict c.in-Ok.answered _ _ _ before behind in
    record {
      so_far = rw c.and-verdict.ensures so_far;
      room = subst (λ n. n < 2 ^ 64)
          (same_next expected batch.first next.first records (next.records ++ rest) _ _ _ so_far) c.requires.room;
      processor = c.take_record.ensures.processor ∙ c.loop-next.invariant.processor;
      rest = subst (λ (framer : Framing). c.next.new.self ≡ record framer { waiting = rest })
          (c.loop-next.invariant.rest) (ap (λ (framer : Framing). record framer { waiting = rest })
          (sym c.in-Some.ensures.some.1));
      later = later_twice _ _ _ c.loop-next.invariant.later c.take_record.ensures.later;
    }

pub loop-next-smaller : goal.loop-next-smaller
loop-next-smaller g c =
    fewer_wait c.loop-next.framer.waiting c.next.new.self.waiting c.in-Some.next.bytes
    (ap (λ (framer : Framing). framer.waiting) c.in-Some.ensures.some.1)

pub returns-clause-processor : goal.returns-clause-processor
returns-clause-processor g c = c.loop-next.invariant.processor

pub returns-clause-fault : goal.returns-clause-fault
returns-clause-fault g c = told_no_fault c.loop-next.verdict

pub returns-clause-later : goal.returns-clause-later
returns-clause-later g c = c.loop-next.invariant.later

pub take_record-requires-clause-room : goal.take_record-requires-clause-room
take_record-requires-clause-room g c κs within =
    room_for_one c.loop-next.batch.first c.loop-next.batch.records c.loop-next.framer.waiting
    c.next.new.self.waiting c.in-Some.next.bytes (ap (λ (framer : Framing). framer.waiting) c.in-Some.ensures.some.1)
    c.loop-next.invariant.room

pub take_record-requires-clause-short : goal.take_record-requires-clause-short
take_record-requires-clause-short g c κs within =
    short_by _ _ _ c.in-Some.ensures.small (ap (λ (framer : Framing). framer.limit) c.loop-next.invariant.rest)
    c.requires.limit

pub returns-clause-emptied : goal.returns-clause-emptied
returns-clause-emptied g c =
    c.next.ensures.unchanged c.in_default.is ∙ c.loop-next.invariant.rest
    ∙ ap (λ waiting. record c.args.framer.now { waiting = waiting }) (c.next.ensures.none.0 c.in_default.is)

pub returns-clause-answered : goal.returns-clause-answered
returns-clause-answered g c =
    let batch = c.args.batch.now in
    all_taken (g.T.RecordProcessor.expected batch.processor) batch.first c.loop-next.batch.first
    (batch.records ++ c.args.framer.now.waiting) c.loop-next.batch.records c.loop-next.framer.waiting
    c.loop-next.verdict _ _ (c.next.ensures.none.0 c.in_default.is) c.loop-next.invariant.so_far
