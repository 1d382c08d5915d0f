use Rattle.std.proofs.Common.{◌≤◌, ◌+◌, ◌-◌, length}
use Rattle.cip_branches.specs.ViewedTree.{kids_around}
use Rattle.cip_branches.specs.Walking.{Walks, kids_left}
use Rattle.cip_branches.proofs.growth.spheres.Spheres.grow_sphere.Given as goal

abbrev pub invariant-loop-place : goal.invariant-loop-place
invariant-loop-place l = record {
  high : l.place ≤ l.past;
  walks : Walks l.fn.self l.first (length l.around.table.now.parents) (kids_around l.around.table.now.parents
      l.around.way.now) l.unresolved l.place l.self;
  room : length l.self.place_tree.place_parents + kids_left (kids_around l.around.table.now.parents l.around.way.now)
      l.fn.self.place_tree.nodes l.place (l.past - l.place) ≤ l.fn.self.place_tree.room;
}
