use Rattle.std.proofs.Common.{◌≡◌, length, ap, arith}
use Rattle.cip_digraph.specs.declared.drawing.graph.Edge.{Edge}
use Rattle.cip_arena.proofs.lemmas.Few.{few_at}
use Rattle.std.proofs.lemmas.Grind.{common_steps}
use Rattle.cip_arena.proofs.sphere_sizes.node_size.Goals as goal

pub overflow_add-size : goal.overflow_add-size
overflow_add-size c =
    let few = few_at c.args.graph.now c.in-Some.vertex in
    let same : length c.edges_at-edge-items.result.now ≡ _ = ap (length {A = Edge})
    c.edges_at-edge-items.ensures.value in
    let within = c.loop-edge-test.true in
    let small = c.loop-edge.invariant.small in
    omega (
      arith,
      few,
      same,
      within,
      small,
      c.edges_at-edge-items.ensures.range.few_edges,
      c.edge_size-size.ensures.small,
    )

pub returns-after-loop-edge-clause-small : goal.returns-after-loop-edge-clause-small
returns-after-loop-edge-clause-small c =
    let few = few_at c.args.graph.now c.in-Some.vertex in
    let same : length c.edges_at-edge-items.result.now ≡ _ = ap (length {A = Edge})
    c.edges_at-edge-items.ensures.value in
    let small = c.loop-edge.invariant.small in
    omega (arith, few, same, small, c.edges_at-edge-items.ensures.range.few_edges, c.loop-edge.auto)

pub returns-after-loop-edge-clause-size : goal.returns-after-loop-edge-clause-size
returns-after-loop-edge-clause-size c = grind (arith, common_steps)

pub loop-edge-preserved : goal.loop-edge-preserved
loop-edge-preserved c = grind (arith, common_steps)

pub edge_size-size-requires-clause-earlier : goal.edge_size-size-requires-clause-earlier
edge_size-size-requires-clause-earlier c = grind (arith, common_steps)
