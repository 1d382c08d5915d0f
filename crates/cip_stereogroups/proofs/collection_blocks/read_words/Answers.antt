use Rattle.std.proofs.Common.{arith}
use Rattle.std.proofs.lemmas.Grind.{common_steps}
use Rattle.cip_stereogroups.proofs.collection_blocks.read_words.Goals as goal

pub returns-in-empty : goal.returns-in-empty
returns-in-empty c = grind (arith, common_steps)

pub returns-in-Ok-Some : goal.returns-in-Ok-Some
returns-in-Ok-Some c = grind (arith, common_steps)
