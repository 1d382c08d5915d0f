use Rattle.std.proofs.Common.{◌≡◌}
use Rattle.gate_branches.specs.declared.trees.TheConstants.{ROOM}
use Rattle.cip_rank.specs.Tree.{last_parent}
use Rattle.gate_branches.proofs.trees.push_all.Given as goal

abbrev pub invariant-loop-digit : goal.invariant-loop-digit
invariant-loop-digit l = record {
  bound : l.table.bound ≡ ROOM;
  last : last_parent l.table.parents ≡ l.last;
}
