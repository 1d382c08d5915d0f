use Rattle.std.proofs.Common.{sym, ◌∙◌, arith}
use Rattle.cip_unit.proofs.lemmas.NoDoubles.{nothing_more}
use Rattle.std.proofs.lemmas.Grind.{common_steps}
use Rattle.cip_unit.proofs.stereo_units.push_all_doubles.Goals as goal

pub returns-else-has_double : goal.returns-else-has_double
returns-else-has_double c =
    nothing_more c.args.sketch.now.graph.now (sym c.has_double.ensures ∙ c.if-has_double.false)
    c.args.sketch.now.molecule.now c.args.sketch.now.positions.now c.args.atoms c.args.units.now

pub push_all_axes-requires-clause-leads : goal.push_all_axes-requires-clause-leads
push_all_axes-requires-clause-leads c = grind (arith, common_steps)

pub returns-in-Ok : goal.returns-in-Ok
returns-in-Ok c = grind (arith, common_steps)
