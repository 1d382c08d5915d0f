use Rattle.std.proofs.Common.{◌≡◌, ◌++◌, map, take, drop}
use Rattle.cip_digraph.specs.Asking.{found_between, with_found}
use Rattle.cip_rules.proofs.recording.record_decisions.Given as goal

abbrev pub invariant-loop-one : goal.invariant-loop-one
invariant-loop-one l =
    l.pairs
    ≡ map (with_found (found_between l.branches.layers.ranked.numbers l.rule l.depth)) (take l.one-index l.fn.pairs)
    ++ drop l.one-index l.fn.pairs
