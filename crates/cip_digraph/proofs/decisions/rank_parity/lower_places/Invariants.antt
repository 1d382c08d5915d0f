use Rattle.std.proofs.Common.{◌≡◌, ◌+◌, ◌≤◌, drop, count_by, nat_lt}
use Rattle.cip_digraph.proofs.decisions.rank_parity.lower_places.Given as goal

abbrev pub invariant-loop-other : goal.invariant-loop-other
invariant-loop-other l = record {
  so_far : l.count + count_by (λ other. nat_lt other l.place) (drop l.other-index l.places)
      ≡ count_by (λ other. nat_lt other l.place) l.places;
  few : l.count ≤ l.other-index;
}
