use Rattle.std.proofs.Common.{◌≡◌, ◌≤◌, ◌+◌}
use Rattle.cip_partition.specs.Kids.{kids_of}
use Rattle.cip_branches.specs.Turning.{AreStirred, Refinement}
use Rattle.cip_branches.proofs.growth.spheres.Spheres.refine_inwards.Given as goal

abbrev pub invariant-loop-inner : goal.invariant-loop-inner
invariant-loop-inner l = record {
  high : l.inner ≤ l.far + 1;
  refinement : Refinement (kids_of l.fn.self.place_tree) l.fn.self.place_tree.place_parents l.fn.self.ranked.rows l.fn.self.starts l.far l.last
      l.fn.self.ranked.numbers l.inner l.self.ranked.rows l.self.ranked.numbers;
  dirty : AreStirred l.fn.self.place_tree.place_parents l.fn.self.ranked.rows l.fn.self.starts l.inner l.far l.fn.self.before
      l.fn.self.ranked.numbers l.self.ranked.numbers;
  others : l.self ≡ record l.fn.self { ranked = l.self.ranked };
  room : l.self.ranked.room ≡ l.fn.self.ranked.room;
}

abbrev pub decreases-loop-inner : goal.decreases-loop-inner
decreases-loop-inner l = l.inner
