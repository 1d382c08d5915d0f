use Rattle.std.proofs.Common.{◌≡◌}
use Rattle.gate_branches.specs.declared.trees.TheConstants.{ROOM}
use Rattle.gate_branches.proofs.pairs.descriptors.Given as goal

abbrev pub invariant-loop-letter : goal.invariant-loop-letter
invariant-loop-letter l = record { bound : l.all.bound ≡ ROOM }
