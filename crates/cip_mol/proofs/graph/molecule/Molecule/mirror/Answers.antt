use Rattle.std.proofs.Common.{arith}
use Rattle.std.proofs.lemmas.Grind.{common_steps}
use Rattle.cip_mol.proofs.lemmas.Mirrored.{range_mirrored, sound_mirrored}
use Rattle.cip_mol.proofs.graph.molecule.Molecule.mirror.Goals as goal

pub of_sound-requires-clause-range : goal.of_sound-requires-clause-range
of_sound-requires-clause-range c = rw (c.in-Ok.ensures, c.in-Ok-mirrored_bonds.ensures, c.atoms.ensures.value, c.bonds.ensures.value) (range_mirrored _ c.atoms.ensures.range)

pub of_sound-requires-clause-sound : goal.of_sound-requires-clause-sound
of_sound-requires-clause-sound c = rw (c.in-Ok.ensures, c.in-Ok-mirrored_bonds.ensures, c.atoms.ensures.value, c.bonds.ensures.value) (sound_mirrored _ c.atoms.ensures.sound)

pub returns-in-Ok-mirrored_bonds : goal.returns-in-Ok-mirrored_bonds
returns-in-Ok-mirrored_bonds c = grind (arith, common_steps)
