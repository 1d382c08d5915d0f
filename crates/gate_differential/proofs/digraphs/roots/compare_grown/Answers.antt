use Rattle.std.proofs.Common.{arith}
use Rattle.gate_differential.proofs.lemmas.Started.{started_one}
use Rattle.gate_differential.proofs.digraphs.roots.compare_grown.Goals as goal

pub loop-sphere-init : goal.loop-sphere-init
loop-sphere-init g c =
    let drawn = c.args.drawn.now in
    let holds = c.start.ensures.holds drawn.positions in
    let one = started_one drawn.graph drawn.positions c.start.new.self holds c.start.ensures.sphere in
    let bound = c.start.ensures.bound in
    let some = c.requires.room.some in
    let work = c.requires.room.work in
    let nearer = c.requires.room.nearer in
    record {
      holds = holds;
      root = c.start.ensures.root;
      fits = omega (arith, one, bound, some);
      room = record {
        some = omega (arith, bound, some);
        work = omega (arith, bound, work);
        nearer = omega (arith, bound, nearer);
      };
    }
