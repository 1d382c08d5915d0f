use Rattle.std.proofs.Common.{◌≡◌, sym, ap, ◌∙◌}
use Rattle.cip_digraph.specs.digraph.Digraph.{Node, is_real}
use Rattle.cip_digraph.proofs.lemmas.numbered.PlaceTrees.{root_first, some_nodes}
use Rattle.gate_differential.proofs.digraphs.deciding.decide_whole.Goals as goal

pub apply_constitutional_rules-requires-clause-real : goal.apply_constitutional_rules-requires-clause-real
apply_constitutional_rules-requires-clause-real c =
    let whole = c.args.whole.now in
    record {
      within = some_nodes whole.graph whole.positions whole.root whole.last;
      real = ap (λ (node : Node). is_real node.kind) (root_first whole.graph whole.positions whole.root whole.last);
    }
