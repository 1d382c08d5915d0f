use Rattle.std.proofs.Common.{sym, arith}
use Rattle.cip_unit.proofs.lemmas.Shown.{axis_shown}
use Rattle.std.proofs.lemmas.Grind.{common_steps}
use Rattle.cip_unit.proofs.axes.push_axis.Goals as goal

pub push_unit-requires : goal.push_unit-requires
push_unit-requires c =
    rw (c.end_ligands.ensures, c.end_ligands-then-is_axis_unit.ensures)
    (axis_shown c.args.sketch.now.graph.now _ c.args.a c.args.middle c.args.b c.requires.drawn c.requires.a c.requires.b
    (sym c.if-is_axis_unit.ensures))

pub end_ligands-requires : goal.end_ligands-requires
end_ligands-requires c = grind (arith, common_steps)
