use Rattle.std.proofs.Common.{◌≡◌, drop}
use Rattle.cip_v2000.specs.Statements.{state_charges}
use Rattle.cip_v2000.proofs.atom_properties.state_charges.Given as goal

abbrev pub invariant-loop-pair : goal.invariant-loop-pair
invariant-loop-pair l = state_charges (drop l.pair-index l.pairs) ≡ state_charges l.pairs
