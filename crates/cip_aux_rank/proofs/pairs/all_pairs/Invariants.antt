use Rattle.std.proofs.Common.{◌≡◌, ◌++◌, length}
use Rattle.cip_aux_rank.specs.Asking.{asked_pairs}
use Rattle.cip_aux_rank.proofs.pairs.all_pairs.Given as goal

abbrev pub invariant-loop-rest : goal.invariant-loop-rest
invariant-loop-rest l = l.pairs.items ++ asked_pairs l.ligand_branches.tops l.rest ≡ asked_pairs l.ligand_branches.tops l.ligands

abbrev pub decreases-loop-rest : goal.decreases-loop-rest
decreases-loop-rest l = length l.rest
