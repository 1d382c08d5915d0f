use Rattle.cip_stereogroups.proofs.group_text.tell_groups.Goals as goal

pub returns-in-Ok-clause-output : goal.returns-in-Ok-clause-output
returns-in-Ok-clause-output g c = rw (← c.in-Ok.ensures) c.tell_drawn-output.ensures.output

pub returns-in-Ok-clause-kept : goal.returns-in-Ok-clause-kept
returns-in-Ok-clause-kept g c = c.tell_drawn-output.ensures.kept
