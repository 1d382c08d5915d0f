use Rattle.std.proofs.Common.{◌≡◌, replicate, None}
use Rattle.cip_aux.proofs.auxiliary_descriptors.clear.Given as goal

abbrev pub invariant-loop : goal.invariant-loop
invariant-loop l = l.descriptors ≡ record l.fn.descriptors { descriptors = replicate l.counter None }
