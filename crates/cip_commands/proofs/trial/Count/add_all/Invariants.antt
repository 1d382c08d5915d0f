use Rattle.std.proofs.Common.{◌≡◌, ◌+◌, fold, take}
use Rattle.cip_commands.specs.Trying.{with_one}
use Rattle.cip_commands.proofs.trial.Count.add_all.Given as goal

abbrev pub invariant-loop-answer : goal.invariant-loop-answer
invariant-loop-answer l = record {
  so_far : l.self ≡ fold with_one l.fn.self (take l.answer-index l.answers);
  records : l.self.counts.records ≡ l.fn.self.counts.records + l.answer-index;
}
