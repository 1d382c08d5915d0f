use Rattle.std.proofs.Common.{◌≡◌, ◌++◌, map, take, drop}
use Rattle.cip_aux_rank.specs.Narrowing.{moved}
use Rattle.cip_aux_rank.proofs.branches.restrict.renumber_pairs.Given as goal

abbrev pub invariant-loop-pair : goal.invariant-loop-pair
invariant-loop-pair l =
    l.pairs ≡ map (moved l.tops l.ligand_branches.tops) (take l.pair-index l.fn.pairs) ++ drop l.pair-index l.fn.pairs
