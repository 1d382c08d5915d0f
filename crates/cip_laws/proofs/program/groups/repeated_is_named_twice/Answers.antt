use Rattle.cip_laws.proofs.lemmas.lines.RepeatedLines.{repeated_is_named_twice}
use Rattle.cip_laws.proofs.program.groups.repeated_is_named_twice.Goals as goal

pub returns : goal.returns
returns c = repeated_is_named_twice
