use Rattle.std.proofs.Common.{ap, sym, ◌∙◌, arith, slice_set}
use Rattle.std.proofs.lemmas.List.Edits.{map_over_more}
use Rattle.cip_digraph.specs.units.Inverted.{inverted_unit}
use Rattle.cip_digraph.proofs.units.invert_all.Goals as goal

pub loop-unit-preserved : goal.loop-unit-preserved
loop-unit-preserved c =
    ap (slice_set c.loop-unit.units c.loop-unit.unit-index)
    (c.invert_unit.ensures ∙ ap (inverted_unit c.args.atoms.now) (sym c.unit-item.is))
    ∙ map_over_more (inverted_unit c.args.atoms.now) c.args.units.now c.loop-unit.units c.loop-unit.unit-index
    c.unit-item.result (omega arith) c.loop-unit.invariant c.unit-item.is
