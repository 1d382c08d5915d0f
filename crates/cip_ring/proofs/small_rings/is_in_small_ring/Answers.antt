use Rattle.std.proofs.Common.{◌∙◌}
use Rattle.cip_ring.proofs.lemmas.Reached.{found_small_ring}
use Rattle.cip_ring.proofs.small_rings.is_in_small_ring.Goals as goal

pub returns-in-Ok : goal.returns-in-Ok
returns-in-Ok c =
    c.is_some.ensures ∙ found_small_ring c.args.graph.now c.args.a c.args.b _ c.in-Ok.ensures
