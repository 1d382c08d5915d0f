use Rattle.std.proofs.Common.{◌≡◌, map}
use Rattle.std.specs.List.{range_with_len}
use Rattle.cip_rules.specs.Rule4bWorkspace.{side_of}
use Rattle.cip_rules.proofs.rule_4b.ask_sides.Given as goal

abbrev pub invariant-loop-branch : goal.invariant-loop-branch
invariant-loop-branch l = record {
  pairs : l.sides ≡ record l.fn.sides { items = map (side_of l.branches) (range_with_len 0 l.branch) };
}
