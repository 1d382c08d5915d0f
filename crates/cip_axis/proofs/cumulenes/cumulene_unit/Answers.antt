use Rattle.std.proofs.Common.{arith}
use Rattle.std.proofs.lemmas.Grind.{common_steps}
use Rattle.cip_axis.proofs.cumulenes.cumulene_unit.Goals as goal

pub cumulene_geometry-geometry-requires-clause-shown : goal.cumulene_geometry-geometry-requires-clause-shown
cumulene_geometry-geometry-requires-clause-shown c = grind (arith, common_steps)

pub cumulene_geometry-geometry-requires-clause-within : goal.cumulene_geometry-geometry-requires-clause-within
cumulene_geometry-geometry-requires-clause-within c = grind (arith, common_steps)
