use Rattle.std.proofs.Common.{◌+◌, ◌∙◌, [], List, flat_map, length, sym, ap, arith}
use Rattle.std.proofs.lemmas.Grind.{common_steps}
use Rattle.cip_digraph.specs.declared.drawing.graph.Edge.{Edge}
use Rattle.cip_digraph.specs.digraph.Digraph.{children, edge_children}
use Rattle.cip_digraph.specs.graph.Graph.{edges_at}
use Rattle.cip_ranker.proofs.lemmas.Counted.{around_counted, one_counted}
use Rattle.cip_ranker.proofs.two_sphere.two_sphere_size.fits_bound.Goals as goal

pub overflow_add-count : goal.overflow_add-count
overflow_add-count c =
    let small = c.count_below-count.ensures.small in
    omega (arith, small)

pub loop-edge-init : goal.loop-edge-init
loop-edge-init c =
    let graph = c.args.root.now.graph.now in
    let positions = c.args.root.now.positions.now in
    let at = c.args.root.now.at in
    let second =
    λ (edges : List Edge). length (flat_map (children graph positions) (flat_map (edge_children positions at []) edges)) in
    record {
      count = ap (λ (edges : List Edge). 1 + c.count_below-count.result + second edges) c.edges_at-edge-items.ensures.value
          ∙ ap (λ n. 1 + n + second (edges_at graph at)) c.count_below-count.ensures.count
          ∙ sym (around_counted graph positions at);
      small = let few = c.count_below-count.ensures.small in omega (arith, few);
    }

pub overflow_add-count-in-loop-edge : goal.overflow_add-count-in-loop-edge
overflow_add-count-in-loop-edge c =
    let small = c.loop-edge.invariant.small in
    let more = c.count_beyond-count.ensures.small in
    omega (arith, small, more)

pub loop-edge-preserved : goal.loop-edge-preserved
loop-edge-preserved c =
    let root = c.args.root.now in
    record {
      count = one_counted root.graph.now root.positions.now root.at c.loop-edge.edge-index c.loop-edge.count
          c.count_beyond-count.result _ c.edges_at-edge-items.result.now _ c.loop-edge-test.true
          c.count_beyond-count.ensures.count c.loop-edge.invariant.count;
      small =
          let few = c.if-count-bound.false in
          let fits = c.ranges.bound in
          let more = c.count_beyond-count.ensures.small in
          omega (arith, few, fits, more);
    }

pub returns : goal.returns
returns c = grind (arith, common_steps)
