use Rattle.std.proofs.Common.{◌≡◌, length}
use Rattle.cip_digraph.specs.rules.Keys.{path_from as part_from}
use Rattle.cip_tree.proofs.paths.path_from.Given as goal

abbrev pub invariant-loop-rest : goal.invariant-loop-rest
invariant-loop-rest l = part_from l.vertex l.rest ≡ part_from l.vertex l.path

abbrev pub decreases-loop-rest : goal.decreases-loop-rest
decreases-loop-rest l = length l.rest
