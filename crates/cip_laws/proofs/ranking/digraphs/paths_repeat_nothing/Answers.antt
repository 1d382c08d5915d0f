use Rattle.std.proofs.Common.{eqb}
use Rattle.std.specs.List.{IsDistinct}
use Rattle.std.proofs.lemmas.List.Elements.{All-from_recursion}
use Rattle.cip_digraph.specs.digraph.Digraph.{Node, sphere}
use Rattle.cip_digraph.proofs.lemmas.tree.Children.{sphere_has}
use Rattle.cip_digraph.proofs.lemmas.tree.Ended.{IsPath, Anywhere, leads_anywhere, paths_pass}
use Rattle.cip_digraph.proofs.lemmas.lists.Elements.{all_by}
use Rattle.cip_laws.proofs.ranking.digraphs.paths_repeat_nothing.Goals as goal

pub returns : goal.returns
returns c graph positions root number =
    let passes = paths_pass graph positions Anywhere (λ vertex _. leads_anywhere graph vertex) root tt in
    All-from_recursion (λ (node : Node). IsDistinct eqb node.path) (sphere graph positions root number)
    (all_by (IsPath Anywhere number) (λ (node : Node). IsDistinct eqb node.path) (λ node h. h.once)
    (sphere graph positions root number)
    (sphere_has graph positions root (IsPath Anywhere) passes number))
