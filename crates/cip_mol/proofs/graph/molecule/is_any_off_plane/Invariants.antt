use Rattle.std.proofs.Common.{◌≡◌, drop}
use Rattle.cip_mol.specs.Points.{is_spatial}
use Rattle.cip_mol.proofs.graph.molecule.is_any_off_plane.Given as goal

abbrev pub invariant-loop-atom : goal.invariant-loop-atom
invariant-loop-atom l = is_spatial (drop l.atom-index l.atoms) ≡ is_spatial l.atoms
