use Rattle.std.proofs.Common.{◌≡◌, ◌≤◌, ◌++◌, ◌-◌, length}
use Rattle.rand_core.specs.Steps.{first_words}
use Rattle.rand_pcg.specs.Pcg.{pcg32}
use Rattle.cip_make.specs.Chains.{branches}
use Rattle.cip_make.proofs.chain.branches.Given as goal

abbrev pub invariant-loop-at : goal.invariant-loop-at
invariant-loop-at l = record {
  so_far : l.found.items ++ branches l.at (first_words pcg32 (l.chain - l.at) l.generator)
      ≡ branches 2 (first_words pcg32 (l.chain - 2) l.fn.generator);
  few : length l.found.items ≤ l.at;
}
