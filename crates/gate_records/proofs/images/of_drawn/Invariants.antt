use Rattle.gate_records.proofs.images.of_drawn.Given as goal

abbrev pub ghosts-of_setting : goal.ghosts-of_setting
ghosts-of_setting a = record { name = a.blank.name; parts = a.blank.parts }
