use Rattle.std.proofs.Common.{◌≡◌, ◌++◌, map, take, drop}
use Rattle.cip_rules.specs.Rule4bWorkspace.{base_of, between}
use Rattle.cip_rules.proofs.rule_4b.name_all.Given as goal

abbrev pub invariant-loop-one : goal.invariant-loop-one
invariant-loop-one l =
    l.pairs
    ≡ map (between (base_of l.count)) (take l.one-index l.fn.pairs) ++ drop l.one-index l.fn.pairs
