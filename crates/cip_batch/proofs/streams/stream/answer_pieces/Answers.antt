use Rattle.std.proofs.Common.{◌<◌, ◌^◌, ◌++◌, ◌∙◌, ap, refl, subst, sym, Ok, Err}
use Rattle.cip_batch.specs.declared.error.StreamError.TheVariants as stops
use Rattle.cip_batch.specs.declared.streams.input.ReadStep.TheVariants.{Last}
use Rattle.cip_batch.specs.Batches.{Answers}
use Rattle.cip_batch.specs.Halting.{AnswersHalted}
use Rattle.cip_batch.proofs.lemmas.Ending.{bounded}
use Rattle.cip_batch.proofs.lemmas.Faults.{answered_no_read_fault, brought_no_fault, brought_no_read_fault, joined_fault, later_twice, rose_later, stays}
use Rattle.cip_batch.proofs.lemmas.Halting.{failed, halted, halted_by_fault, room_halted, sound_halted, stopped}
use Rattle.cip_batch.proofs.lemmas.Progressing.{begun, fed_turn, room_fed, turned}
use Rattle.cip_batch.proofs.lemmas.Turning.{as_many, last_came, less_room, piece_came}
use Rattle.cip_batch.proofs.streams.stream.answer_pieces.Goals as goal

-- at the first turn

pub loop-count-init : goal.loop-count-init
loop-count-init g c =
    let fresh = c.requires.fresh in
    let batch = c.args.batch.now in
    record {
      progress = begun (g.T.RecordProcessor.expected batch.processor) c.args.limits c.clear-verdict.result
          (g.S.Source.left c.args.source.now) (g.K.Sink.taken c.args.sink.now) c.args.inflow.now.framer batch.first
          batch.records c.clear-verdict.ensures c.requires.first c.requires.none fresh.holds fresh.empty fresh.within;
      processor = refl;
      source_later = stays (g.S.Source.faults c.args.source.now);
      sink_later = stays (g.K.Sink.faults c.args.sink.now);
      piece = c.requires.piece;
    }

-- a turn that failed

pub returns-in-Err-clause-answered : goal.returns-in-Err-clause-answered
returns-in-Err-clause-answered g c =
    failed _ _ _ _ _ _ _ _ _ _ _ _ _ c.loop-count.invariant.progress c.read_piece.ensures.bounded
    c.in-Err.stop c.in-Err.ensures.brought

pub returns-in-Err-clause-source_fault : goal.returns-in-Err-clause-source_fault
returns-in-Err-clause-source_fault g c =
    brought_no_read_fault c.loop-count.room c.in-Err.stop _ _ _ _ c.in-Err.ensures.brought

pub returns-in-Err-clause-sink_fault : goal.returns-in-Err-clause-sink_fault
returns-in-Err-clause-sink_fault g c =
    brought_no_fault c.loop-count.room c.in-Err.stop _ _ _ _ c.in-Err.ensures.brought

-- a piece

pub process_complete_records-requires-clause-room : goal.process_complete_records-requires-clause-room
process_complete_records-requires-clause-room g c κs within =
    let fed = fed_turn _ c.args.limits c.loop-count.room c.in-Ok-Piece.count c.loop-count.verdict _ _ _ _ _
    c.loop-count.inflow.framer c.read_piece.new.framer c.loop-count.batch.first c.loop-count.batch.records
    c.in-Ok-Piece.field-0 c.in-Ok-Piece.field-0-is c.loop-count.invariant.progress c.in-Ok-Piece.ensures.brought
    c.read_piece.ensures.limit in
    room_fed _ c.args.limits _ _ _ _ _ _ _ _ _ fed c.requires.input

pub process_complete_records-requires-clause-limit : goal.process_complete_records-requires-clause-limit
process_complete_records-requires-clause-limit g c κs within =
    subst (λ limit. limit < 2 ^ 31) (sym (c.read_piece.ensures.limit ∙ c.loop-count.invariant.progress.limit))
    c.requires.record

pub returns-in-Err-process_complete_records-clause-answered : goal.returns-in-Err-process_complete_records-clause-answered
returns-in-Err-process_complete_records-clause-answered g c =
    let fed = fed_turn _ c.args.limits c.loop-count.room c.in-Ok-Piece.count c.loop-count.verdict _ _ _ _ _
    c.loop-count.inflow.framer c.read_piece.new.framer c.loop-count.batch.first c.loop-count.batch.records
    c.in-Ok-Piece.field-0 c.in-Ok-Piece.field-0-is c.loop-count.invariant.progress c.in-Ok-Piece.ensures.brought
    c.read_piece.ensures.limit in
    stopped _ c.args.limits _ c.loop-count.verdict c.in-Err-process_complete_records.stop _ _ _ _ _
    c.read_piece.new.framer _ _ fed
    (subst (λ t. Answers (g.T.RecordProcessor.expected t)
    c.loop-count.batch.first (c.loop-count.batch.records ++ c.read_piece.new.framer.waiting)
    (Err c.in-Err-process_complete_records.stop) (g.K.Sink.taken c.loop-count.sink)
    (g.K.Sink.taken c.process_complete_records.new.sink))
    c.loop-count.invariant.processor
    c.in-Err-process_complete_records.ensures.answered)
    (bounded _ _ _ _ _ _ _ _ _ _ _ _ c.loop-count.invariant.progress c.read_piece.ensures.bounded)

pub returns-in-Err-process_complete_records-clause-source_fault : goal.returns-in-Err-process_complete_records-clause-source_fault
returns-in-Err-process_complete_records-clause-source_fault g c =
    answered_no_read_fault (g.T.RecordProcessor.expected c.loop-count.batch.processor) c.loop-count.batch.first
    (c.loop-count.batch.records ++ c.read_piece.new.framer.waiting) c.in-Err-process_complete_records.stop _ _
    c.in-Err-process_complete_records.ensures.answered

pub returns-in-Err-process_complete_records-clause-sink_fault : goal.returns-in-Err-process_complete_records-clause-sink_fault
returns-in-Err-process_complete_records-clause-sink_fault g c =
    λ is. rose_later _ _ _ c.loop-count.invariant.sink_later (c.in-Err-process_complete_records.ensures.fault is)

pub loop-count-preserved : goal.loop-count-preserved
loop-count-preserved g c =
    let fed = fed_turn _ c.args.limits c.loop-count.room c.in-Ok-Piece.count c.loop-count.verdict _ _ _ _ _
    c.loop-count.inflow.framer c.read_piece.new.framer c.loop-count.batch.first c.loop-count.batch.records
    c.in-Ok-Piece.field-0 c.in-Ok-Piece.field-0-is c.loop-count.invariant.progress c.in-Ok-Piece.ensures.brought
    c.read_piece.ensures.limit in
    record {
      progress = rw c.and-verdict.ensures (turned _ c.args.limits _ c.loop-count.verdict
          c.in-Ok.answered _ _ _ _ _ c.read_piece.new.framer _ _ _ _ _ fed
          (rw c.loop-count.invariant.processor at c.in-Ok.ensures.answered)
          c.in-Ok.ensures.emptied);
      processor = c.in-Ok.ensures.processor ∙ c.loop-count.invariant.processor;
      source_later = later_twice _ _ _ c.loop-count.invariant.source_later c.read_piece.ensures.later;
      sink_later = later_twice _ _ _ c.loop-count.invariant.sink_later
          c.in-Ok.ensures.later;
      piece = subst (λ n. 0 < n)
          (sym (as_many c.loop-count.inflow.piece.len c.read_piece.new.piece c.loop-count.inflow.piece.items
          c.loop-count.inflow.piece.ok.0)) c.loop-count.invariant.piece;
    }

-- nothing more

pub answer_halted-requires-clause-limit : goal.answer_halted-requires-clause-limit
answer_halted-requires-clause-limit g c κs within =
    subst (λ limit. limit < 2 ^ 31) (sym (c.read_piece.ensures.limit ∙ c.loop-count.invariant.progress.limit))
    c.requires.record

pub answer_halted-requires-clause-room : goal.answer_halted-requires-clause-room
answer_halted-requires-clause-room g c κs within =
    let came = last_came c.loop-count.room c.in-Ok-Last.halt c.in-Ok-Last.field-0 _ _ _ _ c.in-Ok-Last.field-0-is
    c.in-Ok-Last.ensures.brought in
    room_halted _ _ _ _ _ _ _ _ _ _ _ _ _ c.loop-count.invariant.progress c.read_piece.ensures.bounded
    c.in-Ok-Last.halt came c.read_piece.ensures.limit c.requires.input

pub returns-in-Ok-Last-clause-answered : goal.returns-in-Ok-Last-clause-answered
returns-in-Ok-Last-clause-answered g c =
    let came = last_came c.loop-count.room c.in-Ok-Last.halt c.in-Ok-Last.field-0 _ _ _ _ c.in-Ok-Last.field-0-is
    c.in-Ok-Last.ensures.brought in
    rw c.then.ensures (halted _ _ _ _ _ _ _ _ _ _ _ _ _ c.loop-count.invariant.progress c.read_piece.ensures.bounded
    c.in-Ok-Last.halt c.answer_halted.result _ came c.read_piece.ensures.limit
    (subst (λ t. AnswersHalted (g.T.RecordProcessor.expected t) c.in-Ok-Last.halt c.loop-count.batch.first c.loop-count.batch.records
    c.read_piece.new.framer c.answer_halted.result (g.K.Sink.taken c.loop-count.sink)
    (g.K.Sink.taken c.answer_halted.new.sink)) c.loop-count.invariant.processor c.answer_halted.ensures.answered))

pub answer_halted-requires-clause-sound : goal.answer_halted-requires-clause-sound
answer_halted-requires-clause-sound g c κs within =
    let came = last_came c.loop-count.room c.in-Ok-Last.halt c.in-Ok-Last.field-0 _ _ _ _ c.in-Ok-Last.field-0-is
    c.in-Ok-Last.ensures.brought in
    sound_halted _ _ _ _ _ _ _ _ _ _ _ _ _ c.loop-count.invariant.progress c.read_piece.ensures.bounded
    c.in-Ok-Last.halt came

pub returns-in-Ok-Last-clause-source_fault : goal.returns-in-Ok-Last-clause-source_fault
returns-in-Ok-Last-clause-source_fault g c =
    rw c.then.ensures (λ is. rose_later _ _ _ c.loop-count.invariant.source_later (c.read_piece.ensures.fault
    (c.in-Ok-Last.is ∙ ap Ok (c.in-Ok-Last.field-0-is ∙ ap Last (halted_by_fault
    (g.T.RecordProcessor.expected c.loop-count.batch.processor) c.in-Ok-Last.halt c.loop-count.verdict c.answer_halted.result
    c.loop-count.batch.first c.loop-count.batch.records c.read_piece.new.framer _ _ c.answer_halted.ensures.answered
    is)))))

pub returns-in-Ok-Last-clause-sink_fault : goal.returns-in-Ok-Last-clause-sink_fault
returns-in-Ok-Last-clause-sink_fault g c =
    rw c.then.ensures (joined_fault c.loop-count.verdict c.answer_halted.result stops.WriteFault
    (λ is. rose_later _ _ _ c.loop-count.invariant.sink_later (c.answer_halted.ensures.fault is)))

-- fewer bytes to come

pub overflow_sub-room : goal.overflow_sub-room
overflow_sub-room g c =
    let came = piece_came c.loop-count.room c.in-Ok-Piece.count c.in-Ok-Piece.field-0 _ _ _ _ c.in-Ok-Piece.field-0-is
    c.in-Ok-Piece.ensures.brought in
    came.few

pub loop-count-smaller : goal.loop-count-smaller
loop-count-smaller g c =
    let came = piece_came c.loop-count.room c.in-Ok-Piece.count c.in-Ok-Piece.field-0 _ _ _ _ c.in-Ok-Piece.field-0-is
    c.in-Ok-Piece.ensures.brought in
    less_room c.loop-count.room c.in-Ok-Piece.count came.some came.few
