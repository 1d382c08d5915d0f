use Rattle.cip_laws.proofs.lemmas.lines.LinesJoined.{groups_are_of_lines}
use Rattle.cip_laws.proofs.program.groups.groups_are_of_lines.Goals as goal

pub returns : goal.returns
returns c = groups_are_of_lines
