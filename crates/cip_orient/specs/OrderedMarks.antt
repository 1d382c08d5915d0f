-- What marks say in the counterclockwise order of directions, of which no two coincide. Own.
use Rattle.std.specs.Prelude.{List}
use Rattle.cip_num.specs.declared.plane.Sign.{Sign}
use Rattle.cip_num.specs.declared.plane.Vec2.{Vec2}
use Rattle.cip_num.specs.Around.{places}
use Rattle.cip_mol.specs.FlatCentres.{by_votes, is_reentrant, votes}
use Rattle.cip_mol.specs.declared.site.Geometry.{Geometry}

abbrev pub by_order : List Vec2 → List Sign → Geometry
by_order directions marks =
    by_votes (is_reentrant directions marks) (places directions) (votes (places directions) marks)
