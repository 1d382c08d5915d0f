use Rattle.cip_frame.proofs.lemmas.PlainLines.{plain_to}
use Rattle.cip_frame.proofs.framer.plain_lines.Goals as goal

pub returns-in-Some-clause-plain : goal.returns-in-Some-clause-plain
returns-in-Some-clause-plain c = λ _.
    plain_to c.args.bytes.now c.before_dollar-before.result.now c.in-Some.place c.before_dollar-before.ensures.front
    c.before_dollar-before.ensures.lacks c.in-Some.ensures.0.high c.in-Some.ensures.1
