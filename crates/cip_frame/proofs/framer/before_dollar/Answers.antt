use Rattle.std.proofs.Common.{arith, length}
use Rattle.std.proofs.lemmas.List.{take_all}
use Rattle.cip_frame.proofs.lemmas.PlainLines.{lacks_before}
use Rattle.cip_frame.proofs.framer.before_dollar.Goals as goal

pub returns-in-Some-clause-lacks : goal.returns-in-Some-clause-lacks
returns-in-Some-clause-lacks c = lacks_before c.args.bytes.now c.in-Some.place c.in-Some.ensures.0.before

pub returns-in-None-clause-lacks : goal.returns-in-None-clause-lacks
returns-in-None-clause-lacks c =
    rw (take_all (length c.args.bytes.now) c.args.bytes.now (omega arith)) at
    (lacks_before c.args.bytes.now (length c.args.bytes.now) c.in-None.ensures)
