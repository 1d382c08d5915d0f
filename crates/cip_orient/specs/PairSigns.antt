-- The two signs that are asked of a pair of ligands, by the step between the two ends. Own.
use Rattle.std.specs.Prelude.{List}
use Rattle.cip_num.specs.declared.plane.Sign.{Sign}
use Rattle.cip_num.specs.declared.plane.Vec3.{Vec3}
use Rattle.cip_mol.specs.declared.graph.molecule.Atom.{Atom}
use Rattle.cip_mol.specs.declared.site.Geometry.{Geometry}
use Rattle.cip_mol.specs.Geometry.{sides, twist}
use Rattle.cip_mol.specs.Pairs.{by_pairs}
use Rattle.cip_mol.specs.Points.{point, step, steps}
use Rattle.cip_orient.specs.declared.drawn_ligands.DrawnEnd.{DrawnEnd}
use Rattle.cip_orient.specs.declared.pairs.PairSign.{PairSign}
use Rattle.cip_orient.specs.declared.pairs.PairSign.TheVariants.{Sides, Twist}

abbrev pub pair_sign : PairSign → Vec3 → Vec3 → Vec3 → Sign
pair_sign Sides between first second = sides between first second
pair_sign Twist between first second = twist between first second

-- what the pairs of drawn ligands show
abbrev pub by_drawn_pairs : PairSign → List Atom → DrawnEnd → DrawnEnd → Geometry
by_drawn_pairs sign atoms nearer far =
    by_pairs (pair_sign sign (step (point atoms nearer.at) (point atoms far.at))) (steps atoms nearer.at nearer.ligands)
    (steps atoms far.at far.ligands)
