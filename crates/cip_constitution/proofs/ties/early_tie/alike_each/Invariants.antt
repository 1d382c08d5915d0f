use Rattle.std.proofs.Common.{◌≡◌, ◌≤◌, length, vec_capacity}
use Rattle.cip_digraph.specs.units.Ranked.{some_pair}
use Rattle.cip_constitution.specs.Trials.{are_alike_in}
use Rattle.cip_constitution.proofs.ties.early_tie.alike_each.Given as goal

abbrev pub invariant-loop-rest : goal.invariant-loop-rest
invariant-loop-rest l = record {
  rest : some_pair (are_alike_in l.trial) l.rest ≡ some_pair (are_alike_in l.trial) l.trial.setting.ligands.now;
  room : vec_capacity l.fn.under ≤ vec_capacity l.under;
}

abbrev pub decreases-loop-rest : goal.decreases-loop-rest
decreases-loop-rest l = length l.rest
