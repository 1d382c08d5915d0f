use Rattle.cip_edit.proofs.centres.find_centre.find_at.Given as goal

abbrev pub ghosts-label_counted : goal.ghosts-label_counted
ghosts-label_counted g a = record { name = a.blank.name; parts = a.blank.parts }
