use Rattle.std.proofs.Common.{◌<◌, length, subst, sym}
use Rattle.cip_branches.specs.SphereColumns.{SphereColumns}
use Rattle.cip_branches.proofs.lemmas.walked.Pushed.{keep_pushed}
use Rattle.cip_branches.proofs.growth.spheres.Spheres.push_place.Goals as goal

pub invariant_of-self : goal.invariant_of-self
invariant_of-self c =
    keep_pushed c.args.node c.args.branch c.args.parent_place c.args.number c.room-none.result c.self.invariant
    (subst (λ (l : SphereColumns). length l.place_tree.place_parents < l.place_tree.room) (sym c.self.view_is) c.requires) c.push.ensures
    c.push-2.ensures c.push-3.ensures c.push-4.ensures c.push-5.ensures
