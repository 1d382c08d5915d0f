use Rattle.std.proofs.Common.{arith}
use Rattle.std.proofs.lemmas.List.{map-set, get_or-map}
use Rattle.std.proofs.lemmas.Grind.{common_steps}
use Rattle.cip_aux.proofs.units.unit_index.Rows.push.Goals as goal

pub returns : goal.returns
returns c = grind (arith, common_steps, map-set, get_or-map)

pub index_mut-requires : goal.index_mut-requires
index_mut-requires c = grind (arith, common_steps)
