use Rattle.std.proofs.Common.{◌≡◌, ◌≤◌, ◌++◌, length, vec_capacity}
use Rattle.cip_constitution.specs.Pairs.{pairs_of}
use Rattle.cip_constitution.proofs.pairs.ligand_pairs.Given as goal

abbrev pub invariant-loop-rest : goal.invariant-loop-rest
invariant-loop-rest l = record {
  so_far : l.pairs.items ++ pairs_of l.rest ≡ pairs_of l.ligands;
  room : vec_capacity l.fn.pairs ≤ vec_capacity l.pairs;
}

abbrev pub decreases-loop-rest : goal.decreases-loop-rest
decreases-loop-rest l = length l.rest
