use Rattle.std.proofs.Common.{◌≡◌, ◌+◌, ◌++◌, length, map}
use Rattle.cip_commands.specs.Trying.{answer_of, answers_to}
use Rattle.cip_commands.proofs.trial.next_jobs.Given as goal

abbrev pub invariant-loop-before : goal.invariant-loop-before
invariant-loop-before g l = record {
  jobs : answers_to l.trial.series l.trial.labelling l.done ++ map answer_of l.jobs.items
      ≡ answers_to l.trial.series l.trial.labelling l.before;
  many : l.done + length l.jobs.items ≡ l.before;
}
