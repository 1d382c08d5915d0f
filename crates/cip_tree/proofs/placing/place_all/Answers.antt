use Rattle.std.proofs.Common.{length, ap, ◌∙◌, arith}
use Rattle.cip_tree.specs.FlatTree.{Placed}
use Rattle.cip_tree.proofs.lemmas.Depths.{shallow}
use Rattle.cip_tree.proofs.lemmas.FlatNodes.{further, first_further}
use Rattle.cip_tree.proofs.lemmas.SpheresInOrder.{few_placed}
use Rattle.cip_tree.proofs.placing.place_all.Goals as goal

pub height-end-requires : goal.height-end-requires
height-end-requires c = omega (arith, shallow c.args.tree.now.below, c.requires)

pub overflow_cast-past : goal.overflow_cast-past
overflow_cast-past c =
    let len = ap (length {A = Placed}) c.loop.invariant.nodes in
    omega (arith, c.len-past.ensures, c.loop.nodes.ok, len, few_placed c.args.tree.now c.loop.counter, c.requires)

pub loop-preserved : goal.loop-preserved
loop-preserved c = record {
  nodes = c.in_ok-place_sphere.ensures ∙ further c.args.tree.now c.loop.counter c.loop.first c.loop.nodes.items
      c.loop.invariant.nodes c.loop.invariant.first;
  first =
      let nodes = first_further c.args.tree.now c.loop.counter c.loop.nodes.items c.loop.invariant.nodes in
      omega (arith, c.len-past.ensures, c.loop.nodes.ok, nodes);
}
