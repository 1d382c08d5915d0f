use Rattle.cip_stereogroups.proofs.group_outcomes.lines_of_groups.Given as goal

abbrev pub ghosts-count_lines : goal.ghosts-count_lines
ghosts-count_lines g a = record { name = a.blank.name; parts = a.blank.parts }
