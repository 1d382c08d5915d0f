use Rattle.std.proofs.Common.{ap, ◌∙◌}
use Rattle.cip_digraph.specs.declared.nodes.NodeKind.TheVariants.{Closure}
use Rattle.cip_digraph.specs.digraph.Digraph.{duplicate}
use Rattle.cip_digraph.specs.rules.Keys.{counterpart}
use Rattle.cip_tree.specs.Branches.{Branch}
use Rattle.cip_tree.specs.FlatTree.{number_of}
use Rattle.cip_tree.proofs.tree.PlainTree.number_of_counterpart.Goals as goal

pub returns : goal.returns
returns c =
    c.number_of.ensures
    ∙ ap (number_of c.args.nodes.now) (c.deref-2.ensures.value ∙ c.in_ok-path.ensures
    ∙ ap (λ path. counterpart (duplicate Closure c.self.inside.vertex path)) c.deref.ensures.value
    ∙ ap (λ (branch : Branch). counterpart branch.label.node) c.self.view_is)
