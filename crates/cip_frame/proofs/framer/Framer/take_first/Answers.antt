use Rattle.std.proofs.Common.{arith, ◌≡◌, ◌++◌, true, Err, ap}
use Rattle.std.proofs.lemmas.Grind.{common_steps}
use Rattle.cip_text.specs.Lines.{lines_of}
use Rattle.cip_frame.specs.declared.fault.FrameFault.TheVariants.{RecordTooLong}
use Rattle.cip_frame.specs.Taking.{is_line}
use Rattle.cip_frame.proofs.lemmas.Ahead.{ahead_first, ahead_line, ahead_over}
use Rattle.cip_frame.proofs.lemmas.PieceLines.{first_is_line}
use Rattle.cip_frame.proofs.framer.Framer.take_first.Goals as goal

pub take_line-requires : goal.take_line-requires
take_line-requires c =
    first_is_line c.args.bytes.now c.in-Some.line.now (lines_of c.in-Some.behind.now) c.in-Some.ensures.lines

pub returns-in-Err-clause-too_long : goal.returns-in-Err-clause-too_long
returns-in-Err-clause-too_long c = λ e.
    let same : c.in-Err.fault ≡ RecordTooLong = cc in
    let line = c.in-Some.line.now in
    let behind = c.in-Some.behind.now in
    let is : is_line line ≡ true = first_is_line c.args.bytes.now line (lines_of behind) c.in-Some.ensures.lines in
    let over = c.in-Err.ensures.too_long (ap Err same) in
    rw (over.1, ← c.in-Some.ensures.joined) (ahead_over c.args.self.now (line ++ behind) c.args.self.now line behind is
    (ahead_first c.args.self.now (line ++ behind)) over.0)

pub returns-in-Ok-clause-taken : goal.returns-in-Ok-clause-taken
returns-in-Ok-clause-taken c =
    let line = c.in-Some.line.now in
    let behind = c.in-Some.behind.now in
    let is : is_line line ≡ true = first_is_line c.args.bytes.now line (lines_of behind) c.in-Some.ensures.lines in
    rw (← c.in-Some.ensures.joined) (ahead_line c.args.self.now (line ++ behind) c.args.self.now line behind
    c.take_line.new.self is (ahead_first c.args.self.now (line ++ behind)) c.in-Ok.ensures.taken)

pub returns-in-Ok-clause-fewer : goal.returns-in-Ok-clause-fewer
returns-in-Ok-clause-fewer c = grind (arith, common_steps)
