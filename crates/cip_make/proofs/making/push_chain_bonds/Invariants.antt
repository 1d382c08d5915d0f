use Rattle.std.proofs.Common.{◌≡◌, ◌++◌}
use Rattle.cip_make.specs.Made.{chain_bonds}
use Rattle.cip_make.proofs.making.push_chain_bonds.Given as goal

abbrev pub invariant-loop-before : goal.invariant-loop-before
invariant-loop-before l = l.text.items ≡ l.fn.text.items ++ chain_bonds l.before
