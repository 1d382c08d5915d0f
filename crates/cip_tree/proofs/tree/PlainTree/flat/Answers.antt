use Rattle.std.proofs.Common.{length, sym, ap, ◌∙◌, map, subst, arith}
use Rattle.cip_digraph.specs.digraph.NodeList.{parents_of}
use Rattle.cip_tree.specs.Branches.{height}
use Rattle.cip_tree.specs.FlatTree.{Placed}
use Rattle.cip_tree.specs.InOrder.{AreInOrder}
use Rattle.cip_tree.proofs.lemmas.FlatNodes.{parents_told}
use Rattle.cip_tree.proofs.lemmas.SpheresInOrder.{few_placed, in_order}
use Rattle.cip_tree.proofs.tree.PlainTree.flat.Goals as goal

pub table_of-requires-clause-few : goal.table_of-requires-clause-few
table_of-requires-clause-few c =
    let tree = c.args.self.now in
    let len = ap (length {A = Placed}) (c.deref.ensures.value ∙ c.in_ok-placed.ensures) in
    omega (arith, len, few_placed tree (height tree), c.requires)

pub table_of-requires-clause-in_order : goal.table_of-requires-clause-in_order
table_of-requires-clause-in_order c =
    let tree = c.args.self.now in
    subst AreInOrder (sym (c.deref.ensures.value ∙ c.in_ok-placed.ensures)) (in_order tree (height tree))

pub invariant_of-result : goal.invariant_of-result
invariant_of-result c =
    c.in_ok-table_of.ensures
    ∙ ap (map (λ (node : Placed). node.parent)) (c.deref.ensures.value ∙ sym c.deref-2.ensures.value)
    ∙ sym (ap parents_of c.in_ok-node_data.ensures ∙ parents_told c.deref-2.result.now c.deref-2.result.now)
