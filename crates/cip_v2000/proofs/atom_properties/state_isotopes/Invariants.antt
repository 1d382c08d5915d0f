use Rattle.std.proofs.Common.{◌≡◌, drop}
use Rattle.cip_v2000.specs.Statements.{state_isotopes}
use Rattle.cip_v2000.proofs.atom_properties.state_isotopes.Given as goal

abbrev pub invariant-loop-pair : goal.invariant-loop-pair
invariant-loop-pair l = state_isotopes (drop l.pair-index l.pairs) ≡ state_isotopes l.pairs
