use Rattle.std.proofs.Common.{◌≡◌, ◌≤◌, ◌+◌, count_by, drop, map}
use Rattle.cip_digraph.specs.Sides.{is_below}
use Rattle.cip_aux.specs.Turning.{side_at}
use Rattle.cip_aux.proofs.parities.parity.is_turned.Given as goal

abbrev pub invariant-loop-pair : goal.invariant-loop-pair
invariant-loop-pair l = record {
  count : l.count + count_by is_below (map side_at (drop l.pair-index l.pairs))
      ≡ count_by is_below (map side_at l.pairs);
  few : l.count ≤ l.pair-index;
}
