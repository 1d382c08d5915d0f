use Rattle.cip_answer.proofs.axis_units.answer_further.Given as goal

abbrev pub ghosts-label_all : goal.ghosts-label_all
ghosts-label_all g a = record { name = a.blank.name; parts = a.blank.parts }
