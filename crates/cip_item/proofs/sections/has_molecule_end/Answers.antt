use Rattle.std.proofs.Common.{arith}
use Rattle.std.proofs.lemmas.Grind.{common_steps}
use Rattle.cip_item.proofs.sections.has_molecule_end.Goals as goal

pub returns-then-is_molecule_end : goal.returns-then-is_molecule_end
returns-then-is_molecule_end c = grind (arith, common_steps)

pub loop-content-preserved : goal.loop-content-preserved
loop-content-preserved c = grind (arith, common_steps)

pub returns : goal.returns
returns c = grind (arith, common_steps)
