use Rattle.std.proofs.Common.{◌≡◌, ◌+◌, ◌-◌, ℕ, length}
use Rattle.cip_aux.specs.UnitIndex.{row}
use Rattle.cip_aux.proofs.units.unit_index.Rows.reach.Given as goal

abbrev pub invariant-loop-self : goal.invariant-loop-self
invariant-loop-self l = (other : ℕ) → row l.self other ≡ row l.initial.self other

abbrev pub decreases-loop-self : goal.decreases-loop-self
decreases-loop-self l = l.vertex + 1 - length l.self
