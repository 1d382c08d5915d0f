use Rattle.gate_branches.specs.Digraphs.{AreRankedFirst}
use Rattle.gate_branches.proofs.by_nodes.follow.Given as goal

abbrev pub invariant-loop : goal.invariant-loop
invariant-loop l = record { ranked : AreRankedFirst l.digraph l.branches }
