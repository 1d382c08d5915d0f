use Rattle.std.proofs.Common.{◌≡◌, cond, ap, ◌∙◌, slice_index, subst, IfOk}
use Rattle.cip_digraph.specs.declared.nodes.NodeKind.TheVariants.{Multiple, Delocalised}
use Rattle.cip_digraph.specs.digraph.Digraph.{duplicate}
use Rattle.cip_digraph.specs.graph.Graph.{other_end}
use Rattle.cip_tree.specs.Along.{duplicate_for as duplicate_of}
use Rattle.cip_tree.specs.Boxed.{bare}
use Rattle.cip_tree.proofs.growing.duplicate_for.Goals as goal

pub returns-else-is_shifted : goal.returns-else-is_shifted
returns-else-is_shifted c =
    let path = c.args.path.now in
    let edge = c.args.edge.now in
    let vertex = slice_index path 0 in
    let same : duplicate Multiple c.other_end.result path ≡ duplicate_of c.args.bonding.now.positions.now path edge =
    ap (λ other. duplicate Multiple other path) c.other_end.ensures
    ∙ ap (λ b. cond b (duplicate Delocalised vertex path) (duplicate Multiple (other_end vertex edge) path))
    c.if-is_shifted.ensures in
    subst (λ node. IfOk c.multiple.result
    (λ branch. branch ≡ bare c.args.bonding.now.graph.now c.args.bonding.now.positions.now node)) same
    (c.multiple.ensures c.args.bonding.now.positions.now)
