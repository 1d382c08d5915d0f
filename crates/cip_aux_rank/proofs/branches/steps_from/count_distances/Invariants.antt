use Rattle.std.proofs.Common.{◌≡◌, length}
use Rattle.cip_aux.specs.Views.{sight_of}
use Rattle.cip_aux_rank.specs.Keys.{KnowSteps}
use Rattle.cip_aux_rank.proofs.branches.steps_from.count_distances.Given as goal

abbrev pub invariant-loop : goal.invariant-loop
invariant-loop g l = record {
  known : KnowSteps (sight_of l.whole) l.from.node (length l.steps.items) l.steps.items;
  count : length l.steps.items ≡ l.counter;
  room : l.steps.room ≡ l.fn.steps.room;
}
