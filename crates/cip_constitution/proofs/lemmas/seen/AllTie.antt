-- The order in which all nodes tie is total.
use Rattle.std.specs.Cmp.{IsTotalOrder}
use Rattle.std.proofs.lemmas.Cmp.{on_total, nat_cmp_total}
use Rattle.cip_digraph.specs.digraph.Digraph.{Node}
use Rattle.cip_digraph.specs.rules.Orders.{all_tie}

pub tie_total : IsTotalOrder (all_tie {N = Node})
tie_total = on_total (λ (node : Node). 0) nat_cmp_total
