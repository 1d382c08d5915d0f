use Rattle.std.proofs.Common.{◌∙◌, ap, cond, map, sym, arith}
use Rattle.cip_mol.specs.FlatCentres.{in_plane}
use Rattle.cip_mol.specs.Marks.{mark_to}
use Rattle.cip_mol.specs.Points.{flat_steps, point}
use Rattle.cip_mol.specs.SpatialCentres.{in_space}
use Rattle.std.proofs.lemmas.Grind.{common_steps}
use Rattle.cip_orient.proofs.centre.show_drawn.Goals as goal

pub returns-then-is_spatial : goal.returns-then-is_spatial
returns-then-is_spatial c =
    let atoms = c.args.molecule.now.atoms in
    let bonds = c.args.molecule.now.bonds in
    let drawn = c.args.drawn.now in
    let points = c.as_slice.ensures.value ∙ c.points-points.ensures.value in
    c.show_in_space.ensures ∙ (λ i. in_space (c.point.ensures.value i) (points i))
    ∙ sym (ap (λ b. cond b (in_space (point atoms c.args.at) (map (point atoms) drawn))
    (in_plane (flat_steps atoms c.args.at drawn) (map (mark_to c.args.at bonds) drawn)))
    (sym c.is_spatial.ensures ∙ c.if-is_spatial.true))

pub returns-else-is_spatial : goal.returns-else-is_spatial
returns-else-is_spatial c =
    let atoms = c.args.molecule.now.atoms in
    let bonds = c.args.molecule.now.bonds in
    let drawn = c.args.drawn.now in
    let directions = c.as_slice-else-is_spatial.ensures.value ∙ c.flat_steps-directions.ensures.value in
    let marks = c.as_slice-else-is_spatial-2.ensures.value ∙ c.marks_to-marks.ensures in
    c.show_in_plane.ensures ∙ (λ i. in_plane (directions i) (marks i))
    ∙ sym (ap (λ b. cond b (in_space (point atoms c.args.at) (map (point atoms) drawn))
    (in_plane (flat_steps atoms c.args.at drawn) (map (mark_to c.args.at bonds) drawn)))
    (sym c.is_spatial.ensures ∙ c.if-is_spatial.false))

pub show_in_space-requires-clause-three : goal.show_in_space-requires-clause-three
show_in_space-requires-clause-three c = grind (arith, common_steps)

pub points-points-requires : goal.points-points-requires
points-points-requires c = grind (arith, common_steps)

pub show_in_plane-requires-clause-marks : goal.show_in_plane-requires-clause-marks
show_in_plane-requires-clause-marks c = grind (arith, common_steps)

pub show_in_plane-requires-clause-some : goal.show_in_plane-requires-clause-some
show_in_plane-requires-clause-some c = grind (arith, common_steps)

pub flat_steps-directions-requires-clause-within : goal.flat_steps-directions-requires-clause-within
flat_steps-directions-requires-clause-within c = grind (arith, common_steps)
