use Rattle.std.proofs.Common.{◌≡◌, map, take, length, All}
use Rattle.cip_mol.specs.Points.{point}
use Rattle.cip_mol.specs.Ranges.{IsPlace}
use Rattle.cip_orient.proofs.coordinates.points.Given as goal

abbrev pub invariant-loop-number : goal.invariant-loop-number
invariant-loop-number l = record {
  so_far : l.points ≡ map (point l.molecule.atoms) (take l.number-index l.numbers);
  counted : length l.points ≡ l.number-index;
  each : All IsPlace l.points;
}
