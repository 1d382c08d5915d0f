use Rattle.cip_digraph.specs.units.DoubleBonds.{bond_sites}
use Rattle.cip_unit.proofs.lemmas.Kept.{units_more}
use Rattle.std.proofs.Common.{arith}
use Rattle.std.proofs.lemmas.Grind.{common_steps}
use Rattle.cip_unit.proofs.stereo_units.push_all_bonds.Goals as goal

pub loop-atom-preserved : goal.loop-atom-preserved
loop-atom-preserved c =
    units_more c.args.sketch.now.molecule.now
    (bond_sites c.args.sketch.now.graph.now c.args.sketch.now.positions.now) c.loop-atom.atom _ _ _ c.loop-atom.invariant
    c.in-Ok-push_bonds.ensures

pub push_bonds-requires-clause-leads : goal.push_bonds-requires-clause-leads
push_bonds-requires-clause-leads c = grind (arith, common_steps)
