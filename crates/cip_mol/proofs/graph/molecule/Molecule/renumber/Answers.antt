use Rattle.std.proofs.Common.{arith}
use Rattle.std.proofs.lemmas.Grind.{common_steps}
use Rattle.cip_mol.specs.Points.{no_atom}
use Rattle.cip_mol.specs.RenumberedDrawing.{no_bond}
use Rattle.cip_mol.proofs.lemmas.Renumbered.{range_renumbered, sound_renumbered}
use Rattle.cip_mol.proofs.graph.molecule.Molecule.renumber.Goals as goal

pub of_sound-requires-clause-range : goal.of_sound-requires-clause-range
of_sound-requires-clause-range c =
    rw (
      c.in-Ok-placed.ensures no_atom,
      c.in-Ok-placed-2.ensures no_bond,
      c.deref.ensures.value,
      c.in-Ok.ensures,
      c.atoms.ensures.value,
      c.bonds.ensures.value,
    )
    (range_renumbered _ _ _ c.requires.atoms c.requires.bonds c.atoms.ensures.range)

pub of_sound-requires-clause-sound : goal.of_sound-requires-clause-sound
of_sound-requires-clause-sound c =
    rw (
      c.in-Ok-placed.ensures no_atom,
      c.in-Ok-placed-2.ensures no_bond,
      c.deref.ensures.value,
      c.in-Ok.ensures,
      c.atoms.ensures.value,
      c.bonds.ensures.value,
    )
    (sound_renumbered _ _ _ c.requires.atoms c.requires.bonds c.atoms.ensures.sound)

pub placed-requires : goal.placed-requires
placed-requires c = grind (arith, common_steps)

pub placed-requires-2 : goal.placed-requires-2
placed-requires-2 c = grind (arith, common_steps)

pub returns-clause-drawn : goal.returns-clause-drawn
returns-clause-drawn c = grind (arith, common_steps)

pub returns-clause-sound : goal.returns-clause-sound
returns-clause-sound c = grind (arith, common_steps)
