use Rattle.std.proofs.Common.{◌≡◌, ◌++◌, drop}
use Rattle.cip_undefined.specs.Ties.{tied_sites}
use Rattle.cip_undefined.proofs.ties.tied_sites.Given as goal

abbrev pub invariant-loop-unit : goal.invariant-loop-unit
invariant-loop-unit l = l.sites.items ++ tied_sites (drop l.unit-index l.found) ≡ tied_sites l.found
