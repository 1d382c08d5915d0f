use Rattle.cip_v3000.proofs.table.atoms_and_bonds.Goals as goal

pub behind_atoms-requires-clause-numbered : goal.behind_atoms-requires-clause-numbered
behind_atoms-requires-clause-numbered c = c.requires.numbered

pub behind_atoms-requires-clause-atoms : goal.behind_atoms-requires-clause-atoms
behind_atoms-requires-clause-atoms c = c.in-Ok.ensures.are

pub returns-in-Err-behind_atoms-clause-value : goal.returns-in-Err-behind_atoms-clause-value
returns-in-Err-behind_atoms-clause-value c = rw c.in-Ok.ensures.value c.in-Err-behind_atoms.ensures.value

pub returns-in-Err-behind_atoms-clause-few : goal.returns-in-Err-behind_atoms-clause-few
returns-in-Err-behind_atoms-clause-few c = tt

pub returns-in-Ok-behind_atoms-clause-few : goal.returns-in-Ok-behind_atoms-clause-few
returns-in-Ok-behind_atoms-clause-few c = rw c.in-Ok.ensures.are.indexed c.requires.counts.atoms
