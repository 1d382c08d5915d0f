use Rattle.std.proofs.Common.{◌≡◌, ◌++◌, drop}
use Rattle.cip_label.specs.Pairwise.{decided_each}
use Rattle.cip_label.proofs.decisions.decide_each.Given as goal

abbrev pub invariant-loop-place : goal.invariant-loop-place
invariant-loop-place g l =
    l.decided.items ++ decided_each (g.D.RootRanker.standing l.digraphs) l.r_first (drop l.place l.ligands)
    ≡ decided_each (g.D.RootRanker.standing l.digraphs) l.r_first l.ligands
