use Rattle.std.proofs.Common.{◌≡◌}
use Rattle.gate_branches.specs.declared.trees.TheConstants.{ROOM}
use Rattle.gate_branches.proofs.lemmas.SeenBranches.{AreWalked}
use Rattle.gate_branches.proofs.ranking.follow.Given as goal

abbrev pub invariant-loop : goal.invariant-loop
invariant-loop l = record {
  walked : AreWalked l.around.table.now.parents l.around.way.now l.from l.branches;
  room : l.branches.layers.place_tree.room ≡ ROOM;
}
