use Rattle.std.proofs.Common.{◌≡◌, ◌++◌, map, take}
use Rattle.cip_label.specs.Pairwise.{between}
use Rattle.cip_label.proofs.decisions.push_decided.Given as goal

abbrev pub invariant-loop-other : goal.invariant-loop-other
invariant-loop-other g l =
    l.decided.items
    ≡ l.initial.decided.items
    ++ map (between (g.D.RootRanker.standing l.digraphs) l.r_first l.one) (take l.other-index l.others)
