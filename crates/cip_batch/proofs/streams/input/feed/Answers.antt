use Rattle.std.proofs.Common.{ap, Err}
use Rattle.cip_batch.proofs.streams.input.feed.Goals as goal

pub returns-in-Ok-clause-fits : goal.returns-in-Ok-clause-fits
returns-in-Ok-clause-fits c = λ given before h e. c.in-Ok.ensures.fed given before h

pub returns-in-Err-RecordTooLong-clause-too_long : goal.returns-in-Err-RecordTooLong-clause-too_long
returns-in-Err-RecordTooLong-clause-too_long c =
    λ given before h e. c.in-Err-RecordTooLong.ensures.passed given before h (ap Err c.in-Err-RecordTooLong.field-0-is)
