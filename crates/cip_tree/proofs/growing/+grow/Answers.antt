use Rattle.std.proofs.Common.{◌≡◌, ◌-◌, ◌++◌, ap, sym, ◌∙◌, map, replicate, length, slice_index, subst, arith}
use Rattle.std.proofs.Common.{append_assoc, OnOk, flat_map, take_all}
use Rattle.std.proofs.lemmas.List.{get_or_default}
use Rattle.cip_digraph.specs.graph.Graph.{edges_at}
use Rattle.cip_tree.specs.Along.{neighbour_below, edge_below, copies, duplicate_for}
use Rattle.cip_digraph.specs.digraph.View.{real_at}
use Rattle.cip_tree.specs.Boxed.{bare, grown}
use Rattle.cip_tree.proofs.lemmas.Rooted.{edge_grown, closure_grown, real_grown, grown_at_once, grown_around}
use Rattle.cip_tree.proofs.growing.+grow.Goals as goal
use Rattle.cip_tree.proofs.growing.+grow.Goals.{grow-then-spheres-gt0+else-loop-edge-test, grow-else-spheres-gt0, add_neighbour-then-is_on+in_ok-child, add_neighbour-else-is_on+in_ok-longer+in_ok-child-2}

pub add_edge-returns : goal.add_edge-returns
add_edge-returns t c =
    let graph = c.args.bonding.now.graph.now in
    let positions = c.args.bonding.now.positions.now in
    let path = c.args.path.now in
    let edge = c.args.edge.now in
    let old = c.args.children.now.items in
    let more = replicate (copies edge) (bare graph positions (duplicate_for positions path edge)) in
    let nearer = map (grown graph positions c.args.spheres) (neighbour_below path c.other_end-other.result) in
    let all : c.add_neighbour.new.children.items ++ more
    ≡ old ++ map (grown graph positions c.args.spheres) (edge_below positions path edge) =
    ap (λ bs. bs ++ more) c.in_ok-add_neighbour.ensures
    ∙ append_assoc old nearer more
    ∙ ap (λ other. old ++ (map (grown graph positions c.args.spheres) (neighbour_below path other) ++ more))
    c.other_end-other.ensures
    ∙ ap (λ bs. old ++ bs) (edge_grown graph positions c.args.spheres path edge) in
    subst (λ bs. OnOk c.add_duplicates.result (c.add_duplicates.new.children.items ≡ bs)) all c.add_duplicates.ensures

pub add_neighbour-returns : goal.add_neighbour-returns
add_neighbour-returns t c =
    let graph = c.args.bonding.now.graph.now in
    let positions = c.args.bonding.now.positions.now in
    let path = c.args.path.now in
    let other = c.args.other in
    let spheres = c.args.spheres in
    c.in_ok-push.ensures.items ∙ ap (λ bs. c.args.children.now.items ++ bs) (elim c.if-is_on.branch [
      | add_neighbour-then-is_on+in_ok-child w ↦ closure_grown graph positions spheres path other c.if-is_on.child
          (sym c.if-is_above.ensures) (sym w.if-is_on.ensures) (w.child-is ∙ w.in_ok-child.ensures positions)
      | add_neighbour-else-is_on+in_ok-longer+in_ok-child-2 w ↦ real_grown graph positions spheres path other
          c.if-is_on.child (sym c.if-is_above.ensures) (sym w.if-is_on.ensures) (w.child-is ∙ w.in_ok-child-2.ensures
          ∙ ap (λ longer. grown graph positions spheres (real_at longer)) w.in_ok-longer.ensures)
    ])

pub grow-returns : goal.grow-returns
grow-returns t c =
    let graph = c.args.bonding.now.graph.now in
    let positions = c.args.bonding.now.positions.now in
    let path = c.args.path.items in
    c.real.ensures positions ∙ elim c.if-spheres-gt0.branch [
      | grow-then-spheres-gt0+else-loop-edge-test w ↦ grown_around graph positions c.args.spheres path
          c.if-spheres-gt0.children.items (omega arith) c.requires.some
          (ap (λ v. v.items) w.children-is ∙ w.loop-edge.invariant
          ∙ ap (λ es. map (grown graph positions (c.args.spheres - 1)) (flat_map (edge_below positions path) es))
          (take_all w.loop-edge.edge-index (edges_at graph (slice_index path 0))
          (let at : w.index.result.now ≡ slice_index path 0 =
          w.index.ensures ∙ get_or_default path 0 w.index.result.now 0 c.requires.some in
          let len = ap length w.edges_at-edge-items.ensures.value ∙ ap (λ v. length (edges_at graph v)) at in
          omega (arith, len, w.loop-edge-test.false))))
      | grow-else-spheres-gt0 w ↦ grown_at_once graph positions c.args.spheres path c.if-spheres-gt0.children.items
          (omega arith) (ap (λ v. v.items) w.children-is ∙ c.new-children.ensures.items)
    ]
