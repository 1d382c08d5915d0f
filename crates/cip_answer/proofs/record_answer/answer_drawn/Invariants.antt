use Rattle.cip_answer.proofs.record_answer.answer_drawn.Given as goal

abbrev pub ghosts-label_units : goal.ghosts-label_units
ghosts-label_units g a = record { name = a.blank.name; parts = a.blank.parts }
