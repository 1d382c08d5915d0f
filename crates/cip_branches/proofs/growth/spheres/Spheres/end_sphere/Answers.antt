use Rattle.std.proofs.Common.{ℕ, length, length-append, ◌∙◌, ap, arith}
use Rattle.cip_partition.specs.ReservedList.{ReservedList}
use Rattle.cip_branches.specs.SphereColumns.{SphereColumns}
use Rattle.cip_branches.proofs.growth.spheres.Spheres.end_sphere.Goals as goal

pub invariant_of-self : goal.invariant_of-self
invariant_of-self c =
    let was = c.self.invariant in
    let longer = ap (λ (r : ReservedList ℕ). length r.items) c.push.ensures
    ∙ length-append c.self.inside.starts.items _ in
    let held = ap (λ (s : SphereColumns). length s.starts) c.self.view_is in
    let room = ap (λ (s : SphereColumns). s.place_tree.room) c.self.view_is in
    let requested = c.requires in
    record {
      few = was.few;
      fits = was.fits;
      ranked_room = was.ranked_room;
      starts_room = ap (λ (r : ReservedList ℕ). r.room) c.push.ensures ∙ was.starts_room;
      starts_fit = omega (arith, longer, held, room, requested);
      before_room = was.before_room;
      flags_room = was.flags_room;
      sets_room = was.sets_room;
      rows_len = was.rows_len;
      numbers_len = was.numbers_len;
      before_len = was.before_len;
      flags_len = was.flags_len;
      sets_len = was.sets_len;
      none = was.none;
    }
