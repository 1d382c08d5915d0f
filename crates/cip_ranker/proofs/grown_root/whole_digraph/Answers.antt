use Rattle.std.proofs.Common.{◌<◌, length, sym, subst}
use Rattle.cip_digraph.specs.graph.Graph.{Graph}
use Rattle.cip_ranker.proofs.lemmas.RootLow.{root_low}
use Rattle.cip_ranker.proofs.grown_root.whole_digraph.Goals as goal

pub new-requires-clause-root : goal.new-requires-clause-root
new-requires-clause-root c =
    let setting = c.args.rooted.now.setting.now in
    subst (λ (graph : Graph). c.args.rooted.now.root < length graph.vertices) (sym c.graph.ensures.value)
    (root_low setting.graph c.args.rooted.now.root c.args.rooted.now.ligands.now c.graph.ensures.proper.sound
    c.requires.rooted.fit)
