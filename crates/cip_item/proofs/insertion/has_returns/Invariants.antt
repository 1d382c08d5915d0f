use Rattle.std.proofs.Common.{◌≡◌, drop, false}
use Rattle.cip_item.specs.Putting.{has_returns}
use Rattle.cip_item.proofs.insertion.has_returns.Given as goal

abbrev pub invariant-loop-byte : goal.invariant-loop-byte
invariant-loop-byte l = has_returns l.behind_return (drop l.byte-index l.bytes) ≡ has_returns false l.bytes
