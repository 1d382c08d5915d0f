use Rattle.cip_undefined.proofs.undefined.undefined_of_drawn.Given as goal

abbrev pub ghosts-told_among : goal.ghosts-told_among
ghosts-told_among g a = record { name = a.blank.name; parts = a.blank.parts }
