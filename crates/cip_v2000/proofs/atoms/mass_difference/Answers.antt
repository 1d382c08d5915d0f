use Rattle.std.proofs.Common.{sym}
use Rattle.cip_v2000.proofs.lemmas.QuietFields.{no_difference}
use Rattle.cip_v2000.proofs.atoms.mass_difference.Goals as goal

pub returns-then-line-eq48-clause-value : goal.returns-then-line-eq48-clause-value
returns-then-line-eq48-clause-value c =
    sym (no_difference c.args.line.now c.if-line-ge36.true c.if-line-eq32.true c.if-line-eq48.true)
