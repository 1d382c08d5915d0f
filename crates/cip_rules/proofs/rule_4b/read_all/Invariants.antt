use Rattle.std.proofs.Common.{◌≡◌, ◌++◌, map, take, drop}
use Rattle.cip_rules.specs.Rule4bWorkspace.{s_higher, read_as, between}
use Rattle.cip_rules.proofs.rule_4b.read_all.Given as goal

abbrev pub invariant-loop-one : goal.invariant-loop-one
invariant-loop-one l =
    l.pairs
    ≡ map (between (read_as l.branches (s_higher l.sides) l.lower)) (take l.one-index l.fn.pairs)
    ++ drop l.one-index l.fn.pairs
