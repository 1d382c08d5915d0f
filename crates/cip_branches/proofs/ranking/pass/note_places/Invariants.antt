use Rattle.cip_branches.specs.Passing.{AreNotedBut}
use Rattle.cip_branches.proofs.ranking.pass.note_places.Given as goal

abbrev pub invariant-loop-row : goal.invariant-loop-row
invariant-loop-row l = record { noted : AreNotedBut l.order.rows l.row l.to l.before l.order.numbers }
