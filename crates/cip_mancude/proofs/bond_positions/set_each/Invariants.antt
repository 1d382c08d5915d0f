use Rattle.std.proofs.Common.{◌≡◌, ◌-◌}
use Rattle.cip_mancude.proofs.lemmas.Listed.{listed_below}
use Rattle.cip_mancude.proofs.bond_positions.set_each.Given as goal

abbrev pub invariant-loop-vertex : goal.invariant-loop-vertex
invariant-loop-vertex l = l.positions ≡ listed_below l.alternation l.vertex (l.count - l.vertex)
