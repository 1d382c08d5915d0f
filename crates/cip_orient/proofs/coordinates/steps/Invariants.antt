use Rattle.std.proofs.Common.{◌≡◌, take, length, All}
use Rattle.cip_num.specs.Space.{IsSmall3}
use Rattle.cip_mol.specs.Points.{steps}
use Rattle.cip_orient.proofs.coordinates.steps.Given as goal

abbrev pub invariant-loop-number : goal.invariant-loop-number
invariant-loop-number l = record {
  so_far : l.steps ≡ steps l.molecule.atoms l.from (take l.number-index l.numbers);
  counted : length l.steps ≡ l.number-index;
  each : All IsSmall3 l.steps;
}
