use Rattle.std.proofs.Common.{◌≡◌, ◌≤◌, length, vec_capacity}
use Rattle.std.specs.List.{list_any}
use Rattle.cip_constitution.specs.Trials.{are_alike_in}
use Rattle.cip_constitution.proofs.ties.early_tie.alike_from.Given as goal

abbrev pub invariant-loop-rest : goal.invariant-loop-rest
invariant-loop-rest l = record {
  rest : list_any (are_alike_in l.trial l.ligand) l.rest ≡ list_any (are_alike_in l.trial l.ligand) l.others;
  room : vec_capacity l.fn.under ≤ vec_capacity l.under;
}

abbrev pub decreases-loop-rest : goal.decreases-loop-rest
decreases-loop-rest l = length l.rest
