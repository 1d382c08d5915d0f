use Rattle.std.proofs.Common.{◌≤◌, length, vec_capacity}
use Rattle.std.specs.List.{AllByRecursion}
use Rattle.cip_constitution.specs.Trials.{AreNotAnew}
use Rattle.cip_constitution.proofs.ties.early_tie_candidates.has_candidate_from.Given as goal

abbrev pub invariant-loop-rest : goal.invariant-loop-rest
invariant-loop-rest l = record {
  anew : AllByRecursion (AreNotAnew l.trial l.ligand) l.rest → AllByRecursion (AreNotAnew l.trial l.ligand) l.others;
  room : vec_capacity l.fn.under ≤ vec_capacity l.under;
}

abbrev pub decreases-loop-rest : goal.decreases-loop-rest
decreases-loop-rest l = length l.rest
