use Rattle.std.proofs.Common.{ap, sym}
use Rattle.cip_v2000.specs.Version.{line_is_v3000}
use Rattle.cip_v2000.proofs.lemmas.FoundTexts.{text_found, text_missing}
use Rattle.cip_v2000.proofs.version.is_v3000.Goals as goal

pub returns-in-None : goal.returns-in-None
returns-in-None c = sym (ap line_is_v3000 (text_missing c.args.lines.now 3 c.in-None.ensures.lookup.3))

pub returns-in-Some : goal.returns-in-Some
returns-in-Some c =
    let found = c.in-Some.ensures.lookup in
    rw (c.eq.ensures, c.version.ensures, c.as_slice.ensures)
    (sym (ap line_is_v3000 (text_found c.args.lines.now 3 c.in-Some.line.now found.3.0 (found.3.1 c.in-Some.line.now))))
