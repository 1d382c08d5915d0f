use Rattle.std.proofs.Common.{◌≡◌, take, length, All}
use Rattle.cip_num.specs.Plane.{IsSmall}
use Rattle.cip_mol.specs.Points.{flat_steps}
use Rattle.cip_orient.proofs.coordinates.flat_steps.Given as goal

abbrev pub invariant-loop-number : goal.invariant-loop-number
invariant-loop-number l = record {
  so_far : l.steps ≡ flat_steps l.molecule.atoms l.from (take l.number-index l.numbers);
  counted : length l.steps ≡ l.number-index;
  each : All IsSmall l.steps;
}
