use Rattle.std.proofs.Common.{◌≡◌, ◌<◌, ◌-◌, length}
use Rattle.cip_constitution.specs.Trials.{node_data, KeepsTo}
use Rattle.cip_constitution.proofs.lemmas.settled.Rounds.{Kept, Fails}
use Rattle.cip_constitution.proofs.steps.settling.settle.Given as goal

abbrev pub invariant-loop-work : goal.invariant-loop-work
invariant-loop-work g l = record {
  kept : Kept (node_data l.setting) l.fn.arena l.arena l.fn.steps l.steps;
  tried : 0 < l.arena.sphere → Fails (node_data l.setting) l.arena.root l.arena.sphere;
  keeps : 0 < l.arena.sphere → KeepsTo (node_data l.setting) l.arena l.arena.sphere l.work;
  bound : l.work.bound ≡ l.fn.work.bound;
  pairs : l.work.pairs ≡ l.fn.work.pairs;
}

abbrev pub decreases-loop-work : goal.decreases-loop-work
decreases-loop-work g l = l.arena.bound - length l.arena.nodes
