use Rattle.std.proofs.Common.{arith}
use Rattle.std.proofs.lemmas.Grind.{common_steps}
use Rattle.cip_axis.specs.Biaryls.{is_biaryl}
use Rattle.cip_axis.proofs.biaryls.is_biaryl.Goals as goal

pub are_three_hindered-requires-clause-a : goal.are_three_hindered-requires-clause-a
unfolding is_biaryl
are_three_hindered-requires-clause-a c = grind (arith, common_steps)

pub are_three_hindered-requires-then-not-lies_in_ring-clause-a : goal.are_three_hindered-requires-then-not-lies_in_ring-clause-a
unfolding is_biaryl
are_three_hindered-requires-then-not-lies_in_ring-clause-a c = grind (arith, common_steps)

pub returns-then-not-lies_in_ring : goal.returns-then-not-lies_in_ring
unfolding is_biaryl
returns-then-not-lies_in_ring c = grind (arith, common_steps)
