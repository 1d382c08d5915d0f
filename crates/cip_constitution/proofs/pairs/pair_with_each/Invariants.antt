use Rattle.std.proofs.Common.{◌≡◌, ◌≤◌, ◌++◌, flat_map, length, vec_capacity}
use Rattle.cip_constitution.specs.Pairs.{pair_with}
use Rattle.cip_constitution.proofs.pairs.pair_with_each.Given as goal

abbrev pub invariant-loop-rest : goal.invariant-loop-rest
invariant-loop-rest l = record {
  so_far : l.pairs.items ++ flat_map (pair_with l.a) l.rest
      ≡ l.fn.pairs.items ++ flat_map (pair_with l.a) l.ligands;
  room : vec_capacity l.fn.pairs ≤ vec_capacity l.pairs;
}

abbrev pub decreases-loop-rest : goal.decreases-loop-rest
decreases-loop-rest l = length l.rest
