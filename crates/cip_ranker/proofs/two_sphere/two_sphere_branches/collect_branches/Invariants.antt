use Rattle.std.proofs.Common.{◌≡◌, ◌++◌, flat_map, length}
use Rattle.cip_ranker.specs.RootDecisions.{branch_if, branches_of}
use Rattle.cip_ranker.specs.Rows.{count_below, shown_of}
use Rattle.cip_ranker.proofs.two_sphere.two_sphere_branches.collect_branches.Given as goal

abbrev pub invariant-loop-rest : goal.invariant-loop-rest
invariant-loop-rest l = record {
  shown : shown_of l.shown.tops.items l.shown.keys.items
      ++ flat_map (branch_if l.root.graph.now l.root.positions.now l.root.at) l.rest
      ≡ branches_of l.root.graph.now l.root.positions.now l.root.at l.ligands;
  all : length l.shown.keys.items ≡ count_below l.shown.tops.items;
}

abbrev pub decreases-loop-rest : goal.decreases-loop-rest
decreases-loop-rest l = length l.rest
