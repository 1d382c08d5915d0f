use Rattle.gate_differential.proofs.answering.answer_with.Given as goal

abbrev pub ghosts-answer_grown : goal.ghosts-answer_grown
ghosts-answer_grown a = record { name = a.blank.name; parts = a.blank.parts }
