use Rattle.std.proofs.Common.{◌≡◌, ◌∙◌, List, length, ap, arith}
use Rattle.std.proofs.lemmas.Grind.{common_steps}
use Rattle.std.proofs.lemmas.List.{take_all}
use Rattle.std.specs.List.{sum_by}
use Rattle.cip_arena.proofs.lemmas.Few.{few_at}
use Rattle.cip_digraph.specs.declared.drawing.graph.Edge.{Edge}
use Rattle.cip_digraph.specs.digraph.Digraph.{edge_children}
use Rattle.cip_ranker.specs.Counting.{way_up}
use Rattle.cip_ranker.proofs.lemmas.Counted.{below_counted}
use Rattle.cip_ranker.proofs.two_sphere.two_sphere_size.count_below.Goals as goal

pub overflow_add-count : goal.overflow_add-count
overflow_add-count c =
    let few = few_at c.args.root.now.graph.now c.args.vertex in
    let same : length c.edges_at-edge-items.result.now ≡ _ = ap (length {A = Edge})
    c.edges_at-edge-items.ensures.value in
    let within = c.loop-edge-test.true in
    let small = c.loop-edge.invariant.small in
    omega (
      arith,
      few,
      same,
      within,
      small,
      c.edges_at-edge-items.ensures.range.few_edges,
      c.count_edge-count.ensures.small,
    )

pub returns-clause-small : goal.returns-clause-small
returns-clause-small c =
    let few = few_at c.args.root.now.graph.now c.args.vertex in
    let same : length c.edges_at-edge-items.result.now ≡ _ = ap (length {A = Edge})
    c.edges_at-edge-items.ensures.value in
    let small = c.loop-edge.invariant.small in
    omega (arith, few, same, small, c.edges_at-edge-items.ensures.range.few_edges, c.loop-edge.auto)

pub returns-clause-count : goal.returns-clause-count
returns-clause-count c =
    let root = c.args.root.now in
    let parent_place = way_up c.args.above in
    c.loop-edge.invariant.count
    ∙ ap (λ (edges : List Edge). sum_by (λ edge. length (edge_children root.positions.now c.args.vertex parent_place edge)) edges)
    (take_all c.loop-edge.edge-index c.edges_at-edge-items.result.now
    (omega (arith, c.loop-edge-test.false, c.loop-edge.auto))
    ∙ c.edges_at-edge-items.ensures.value)
    ∙ below_counted root.graph.now root.positions.now c.args.vertex parent_place

pub loop-edge-preserved : goal.loop-edge-preserved
loop-edge-preserved c = grind (arith, common_steps)
