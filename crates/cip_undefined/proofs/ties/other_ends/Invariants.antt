use Rattle.std.proofs.Common.{◌≡◌, ◌++◌, drop}
use Rattle.cip_undefined.specs.Ties.{other_ends}
use Rattle.cip_undefined.proofs.ties.other_ends.Given as goal

abbrev pub invariant-loop-unit : goal.invariant-loop-unit
invariant-loop-unit l = l.ends.items ++ other_ends (drop l.unit-index l.found) ≡ other_ends l.found
