use Rattle.std.proofs.Common.{◌≤◌, length, vec_capacity}
use Rattle.cip_constitution.specs.Ending.{EachPair}
use Rattle.cip_constitution.specs.Trials.{AreNotAnew}
use Rattle.cip_constitution.proofs.ties.early_tie_candidates.has_candidates.Given as goal

abbrev pub invariant-loop-rest : goal.invariant-loop-rest
invariant-loop-rest l = record {
  anew : EachPair (AreNotAnew l.trial) l.rest → EachPair (AreNotAnew l.trial) l.trial.setting.ligands.now;
  room : vec_capacity l.fn.under ≤ vec_capacity l.under;
}

abbrev pub decreases-loop-rest : goal.decreases-loop-rest
decreases-loop-rest l = length l.rest
