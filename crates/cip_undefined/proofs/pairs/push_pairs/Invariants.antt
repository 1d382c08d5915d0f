use Rattle.std.proofs.Common.{◌≡◌, ◌++◌, drop}
use Rattle.cip_digraph.specs.Sides.{each_two}
use Rattle.cip_undefined.specs.Pairs.{pair}
use Rattle.cip_undefined.proofs.pairs.push_pairs.Given as goal

abbrev pub invariant-loop-place : goal.invariant-loop-place
invariant-loop-place l =
    l.pairs.items ++ each_two (pair l.at) (drop l.place l.ligands)
    ≡ l.initial.pairs.items ++ each_two (pair l.at) l.ligands
