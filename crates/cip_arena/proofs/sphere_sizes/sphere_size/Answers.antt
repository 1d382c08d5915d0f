use Rattle.std.proofs.Common.{arith}
use Rattle.cip_arena.proofs.lemmas.Sized.{size_next}
use Rattle.cip_arena.proofs.sphere_sizes.sphere_size.Goals as goal

pub returns-then-sum-room-clause-over : goal.returns-then-sum-room-clause-over
returns-then-sum-room-clause-over c =
    let le = size_next c.args.graph.now c.args.nodes.now c.args.first c.loop-node.node c.args.past (omega arith)
    (omega arith) in
    omega (arith, le, c.node_size.ensures.size, c.loop-node.invariant.size)
