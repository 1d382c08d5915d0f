use Rattle.std.proofs.Common.{◌≡◌, Err, [], if◌then◌else◌, subst, ap, ◌∙◌}
use Rattle.std.specs.Io.KnownBytes.{Appends}
use Rattle.cip_io.specs.Growth.{AppendsPrefix}
use Rattle.cip_batch.proofs.lemmas.Faults.{later_twice, rose_later, told_no_fault}
use Rattle.cip_batch.proofs.lemmas.Tails.{blank_stopped, blank_refused, blank_written}
use Rattle.cip_batch.proofs.jobs.batch.answer_with_blank.Goals as goal

pub returns-in-Err : goal.returns-in-Err
returns-in-Err g c =
    let batch = c.args.batch.now in
    record {
      answered = λ rest is. blank_stopped (g.T.RecordProcessor.expected batch.processor) batch.first batch.records rest
          c.args.lines.now c.in-Err.stop _ _ is c.in-Err.ensures.answered;
      fault = c.in-Err.ensures.fault;
      later = c.in-Err.ensures.later;
    }

pub returns-in-Err-write_blank : goal.returns-in-Err-write_blank
returns-in-Err-write_blank g c =
    let batch = c.args.batch.now in
    let expected = g.T.RecordProcessor.expected batch.processor in
    let keeps : c.keeps_blank_tail.result ≡ expected.keeps_blank_tail =
    c.keeps_blank_tail.ensures ∙ ap (λ t. (g.T.RecordProcessor.expected t).keeps_blank_tail) c.in-Ok.ensures.processor in
    let stopped = c.in-Err-write_blank.ensures.stopped in
    record {
      answered = λ rest is. blank_refused expected batch.first batch.records rest c.args.lines.now
          c.in-Ok.verdict c.in-Err-write_blank.stop _ _ _ is c.in-Ok.ensures.answered stopped.0
          (subst (λ kept. AppendsPrefix (g.K.Sink.taken c.process_batch.new.sink)
          (g.K.Sink.taken c.write_blank.new.sink) (if kept then c.args.lines.now else [])) keeps stopped.1);
      fault = λ is. rose_later _ _ _ c.in-Ok.ensures.later
          (c.in-Err-write_blank.ensures.fault (ap Err stopped.0));
      later = later_twice _ _ _ c.in-Ok.ensures.later c.in-Err-write_blank.ensures.later;
    }

pub returns-in-Ok-write_blank : goal.returns-in-Ok-write_blank
returns-in-Ok-write_blank g c =
    let batch = c.args.batch.now in
    let expected = g.T.RecordProcessor.expected batch.processor in
    let keeps : c.keeps_blank_tail.result ≡ expected.keeps_blank_tail =
    c.keeps_blank_tail.ensures ∙ ap (λ t. (g.T.RecordProcessor.expected t).keeps_blank_tail) c.in-Ok.ensures.processor in
    record {
      answered = λ rest is. blank_written expected batch.first batch.records rest c.args.lines.now
          c.in-Ok.verdict _ _ _ is c.in-Ok.ensures.answered
          (subst (λ kept. Appends (g.K.Sink.taken c.process_batch.new.sink) (g.K.Sink.taken c.write_blank.new.sink)
          (if kept then c.args.lines.now else [])) keeps c.in-Ok-write_blank.ensures.whole);
      fault = told_no_fault c.in-Ok.verdict;
      later = later_twice _ _ _ c.in-Ok.ensures.later c.in-Ok-write_blank.ensures.later;
    }
