use Rattle.std.proofs.lemmas.Bool.{ne_eqb}
use Rattle.cip_mancude.proofs.lemmas.Turned.{told_listed}
use Rattle.std.proofs.Common.{arith}
use Rattle.std.proofs.lemmas.Grind.{common_steps}
use Rattle.cip_mancude.proofs.bond_positions.is_position.Goals as goal

pub returns-then-other-double-2 : goal.returns-then-other-double-2
returns-then-other-double-2 c =
    told_listed c.args.alternation.now c.requires.sound c.args.double.vertex c.args.other c.args.double.partner
    c.args.before.now _ _ c.requires.partner c.requires.nearer c.requires.below c.if-other-double-2.true
    (ne_eqb c.args.other c.args.double.partner c.if-other-double.false) c.of.ensures.value c.holds.ensures

pub returns-else-other-double-2 : goal.returns-else-other-double-2
returns-else-other-double-2 c = grind (arith, common_steps)
