use Rattle.std.proofs.Common.{sym, subst}
use Rattle.cip_partition.specs.Rows.{AreClassed}
use Rattle.cip_branches.specs.SphereColumns.{SphereColumns}
use Rattle.cip_branches.proofs.growth.spheres.Spheres.stands_by.Goals as goal

pub is_uniform-requires-clause-classed : goal.is_uniform-requires-clause-classed
is_uniform-requires-clause-classed g c =
    subst (λ (s : SphereColumns). AreClassed s.ranked.rows s.ranked.numbers c.args.from c.args.to) (sym c.self.view_is)
    c.requires.classed
