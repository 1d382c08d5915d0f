use Rattle.cip_v3000.proofs.table.behind_atoms.Goals as goal

pub table_end-requires : goal.table_end-requires
table_end-requires c = rw c.deref.ensures.value c.requires.numbered

pub molecule_end-requires : goal.molecule_end-requires
molecule_end-requires c = c.requires.lines

pub returns-in-Ok-molecule_end-clause-are : goal.returns-in-Ok-molecule_end-clause-are
returns-in-Ok-molecule_end-clause-are c = rw (← c.requires.atoms.indexed) c.in-Ok-bond_block.ensures.are
