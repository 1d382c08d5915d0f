use Rattle.std.proofs.Common.{◌≤◌, arith, ap, ◌∙◌}
use Rattle.gate_differential.proofs.lemmas.Started.{started_one}
use Rattle.gate_differential.proofs.digraphs.settled.compare_root.Goals as goal

pub settle-settled-requires-clause-fits : goal.settle-settled-requires-clause-fits
settle-settled-requires-clause-fits g c =
    let drawn = c.args.drawn.now in
    let one = started_one drawn.graph drawn.positions c.start.new.self (c.start.ensures.holds drawn.positions)
    c.start.ensures.sphere in
    let bound = c.start.ensures.bound in
    let some = c.requires.room.some in
    omega (arith, one, bound, some)
