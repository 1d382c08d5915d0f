use Rattle.gate_cases.proofs.main.Given as goal

abbrev pub ghosts-compare_records : goal.ghosts-compare_records
ghosts-compare_records g a = record { name = a.blank.name; parts = a.blank.parts }
