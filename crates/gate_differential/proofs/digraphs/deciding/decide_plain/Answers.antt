use Rattle.std.proofs.Common.{arith}
use Rattle.cip_tree.proofs.lemmas.Depths.{lower}
use Rattle.gate_differential.proofs.digraphs.deciding.decide_plain.Goals as goal

pub plain_order-requires-clause-shallow : goal.plain_order-requires-clause-shallow
plain_order-requires-clause-shallow c = omega (arith, lower c.args.tree.now, c.requires)
