use Rattle.std.proofs.Common.{◌≡◌, ◌<◌, ◌≤◌, ◌+◌, ◌-◌, arith, ap, sym, ◌∙◌, subst, length, List}
use Rattle.cip_digraph.specs.declared.nodes.NodeData.{NodeData}
use Rattle.cip_arena.specs.Growth.{Growth}
use Rattle.cip_arena.specs.Walk.{IsEarlier}
use Rattle.cip_arena.specs.Making.{node_size, size_upto, with_children}
use Rattle.cip_arena.proofs.lemmas.Sized.{node_kept, size_next, size_after, sphere_after}
use Rattle.cip_arena.proofs.lemmas.Added.{keeps_then}
use Rattle.cip_arena.proofs.arena.Arena.make_sphere.Goals as goal

pub make_children-requires-clause-room : goal.make_children-requires-clause-room
make_children-requires-clause-room g c =
    let inv = c.loop-node.invariant in
    let old = c.args.self.now.nodes in
    let n = c.loop-node.node in
    let early : IsEarlier old = subst (λ a. IsEarlier a.nodes) c.self.view_is c.self.invariant.earlier in
    let first = c.self.inside.first in
    let lt : n < length old = omega (arith, c.loop-node-test.true, c.requires.past) in
    let kept : node_size c.args.graph.now c.loop-node.self.nodes n ≡ node_size c.args.graph.now old n =
    node_kept old c.loop-node.self.nodes early inv.kept c.args.graph.now n lt in
    let le : size_upto c.args.graph.now old first (n - first) + node_size c.args.graph.now old n ≤ size_upto
    c.args.graph.now old first (c.args.past - first) = size_next c.args.graph.now old first n c.args.past inv.low
    c.loop-node-test.true in
    let room : c.args.past + size_upto c.args.graph.now old first (c.args.past - first) ≤ c.args.self.now.bound =
    subst (λ f. c.args.past + size_upto c.args.graph.now old f (c.args.past - f) ≤ c.args.self.now.bound)
    (sym inv.at) c.requires.room in
    let bound : c.loop-node.self.bound ≡ c.args.self.now.bound = ap (λ a. a.bound) inv.self in
    let size = inv.size in
    let past = c.requires.past in
    omega (arith, kept, le, room, bound, size, past)

pub loop-node-preserved : goal.loop-node-preserved
loop-node-preserved g c =
    let inv = c.loop-node.invariant in
    let old = c.args.self.now.nodes in
    let n = c.loop-node.node in
    let early : IsEarlier old = subst (λ a. IsEarlier a.nodes) c.self.view_is c.self.invariant.earlier in
    let first = c.self.inside.first in
    let lt : n < length old = omega (arith, c.loop-node-test.true, c.requires.past) in
    let kept : node_size c.args.graph.now c.loop-node.self.nodes n ≡ node_size c.args.graph.now old n =
    node_kept old c.loop-node.self.nodes early inv.kept c.args.graph.now n lt in
    let after : size_upto c.args.graph.now old first (n + 1 - first) ≡ size_upto c.args.graph.now old first (n - first)
    + node_size c.args.graph.now old n = size_after c.args.graph.now old first n inv.low in
    let size = inv.size in
    let made = c.make_children.ensures.size in
    record {
      low = omega (arith, inv.low);
      at = inv.at;
      self = c.make_children.ensures.made
          ∙ ap {A = Growth} {B = Growth} (λ a. record a {
            nodes = with_children c.args.graph.now c.args.positions.now
                a.nodes n;
          }) inv.self
          ∙ ap {A = List NodeData} {B = Growth} (λ ns. record c.args.self.now { nodes = ns })
          (sym (sphere_after c.args.graph.now c.args.positions.now old first n inv.low));
      kept = keeps_then old c.loop-node.self.nodes c.make_children.new.self.nodes inv.kept c.make_children.ensures.kept;
      size = omega (arith, kept, after, size, made);
      last = omega (arith, c.make_children.ensures.last);
      cost = omega (arith, inv.cost, c.make_children.ensures.cost);
    }
