use Rattle.cip_v2000.proofs.lemmas.FoundTexts.{text_found, text_missing}
use Rattle.cip_v2000.proofs.blocks.line_at.Goals as goal

pub returns-in-Some-clause-found : goal.returns-in-Some-clause-found
returns-in-Some-clause-found c =
    let found = c.in-Some.ensures.lookup in
    text_found c.args.lines.now c.args.place c.in-Some.line.now found.3.0 (found.3.1 c.in-Some.line.now)

pub returns-in-None-clause-missing : goal.returns-in-None-clause-missing
returns-in-None-clause-missing c =
    (text_missing c.args.lines.now c.args.place c.in-None.ensures.lookup.3, c.missing_line_fault.ensures)
