use Rattle.cip_stereogroups.specs.Collections.{groups_of}
use Rattle.cip_stereogroups.proofs.group_text.tell_table.Goals as goal

pub returns-in-Ok-clause-output : goal.returns-in-Ok-clause-output
unfolding groups_of
returns-in-Ok-clause-output g c = rw (← c.molecule_of-molecule.ensures, c.in-Ok.ensures) c.tell_groups.ensures.output

pub returns-in-Ok-clause-kept : goal.returns-in-Ok-clause-kept
returns-in-Ok-clause-kept g c = c.tell_groups.ensures.kept
