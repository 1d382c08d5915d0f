use Rattle.cip_digraph.specs.digraph.Digraph.{digraph}
use Rattle.cip_digraph.specs.Laws.{real_paths}
use Rattle.std.proofs.Common.{◌≢◌}
use Rattle.cip_digraph.proofs.lemmas.tree.Apart.{digraph_differs}
use Rattle.cip_digraph.proofs.lemmas.lists.Elements.{pairs_from_pairwise}
use Rattle.cip_laws.proofs.ranking.digraphs.real_nodes_differ.Goals as goal

pub returns : goal.returns
returns c graph positions root number sound =
    pairs_from_pairwise ◌≢◌ (real_paths (digraph graph positions root number))
    (digraph_differs graph positions sound root number)
