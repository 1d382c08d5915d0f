use Rattle.std.proofs.Common.{◌∙◌, sym}
use Rattle.cip_mancude.proofs.lemmas.Listed.{all_none}
use Rattle.cip_mancude.proofs.bond_positions.positions.Goals as goal

pub returns-else-has_counted : goal.returns-else-has_counted
returns-else-has_counted c =
    rw (all_none c.args.graph.now (sym c.has_counted.ensures ∙ c.if-has_counted.false))
    (rw c.vertices.ensures.value at c.none.ensures)
