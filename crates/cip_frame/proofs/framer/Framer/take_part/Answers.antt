use Rattle.std.proofs.Common.{rules, ◌≡◌, ◌<◌, ◌++◌, take, drop, Err, ap}
use Rattle.std.proofs.lemmas.List.{take-append-drop, take_rest}
use Rattle.cip_frame.specs.declared.fault.FrameFault.TheVariants.{RecordTooLong}
use Rattle.cip_frame.specs.Taking.{IsTooLong}
use Rattle.cip_frame.proofs.lemmas.Ahead.{ahead_plain, plain_over}
use Rattle.cip_frame.proofs.framer.Framer.take_part.Goals as goal

pub returns-in-Err-clause-too_long : goal.returns-in-Err-clause-too_long
returns-in-Err-clause-too_long c = λ e.
    let same : c.in-Err.fault ≡ RecordTooLong = cc in
    let count = c.plain_front-plain.result in
    let bytes = c.args.bytes.now in
    let some : 0 < count = search rules in
    let over = c.in-Err.ensures.too_long (ap Err same) in
    let whole : IsTooLong c.args.self.now (take count bytes ++ drop count bytes) c.args.self.now =
    plain_over c.args.self.now (take count bytes) (drop count bytes) (c.plain_front-plain.ensures.begun some)
    (c.plain_front-plain.ensures.plain some) over.0 in
    rw over.1 (rw (take-append-drop count bytes) at whole)

pub returns-in-Ok-clause-taken : goal.returns-in-Ok-clause-taken
returns-in-Ok-clause-taken c =
    let count = c.plain_front-plain.result in
    let bytes = c.args.bytes.now in
    let some : 0 < count = search rules in
    let whole = ahead_plain c.args.self.now (take count bytes) (drop count bytes)
    (c.plain_front-plain.ensures.begun some) (c.plain_front-plain.ensures.plain some) c.in-Ok.ensures.within in
    rw (c.in-Ok.ensures.taken, take_rest bytes count) (rw (take-append-drop count bytes) at whole)
