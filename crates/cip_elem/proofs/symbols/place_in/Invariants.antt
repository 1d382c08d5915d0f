use Rattle.std.proofs.Common.{◌≡◌, ◌≤◌, ◌+◌, length}
use Rattle.cip_elem.specs.Columns.{place_in}
use Rattle.cip_elem.proofs.symbols.place_in.Given as goal

abbrev pub invariant-loop-rest : goal.invariant-loop-rest
invariant-loop-rest l = record {
  so_far : place_in l.first l.second l.place l.rest ≡ place_in l.first l.second 0 l.columns;
  within : l.place + l.place + length l.rest ≤ length l.columns;
}

abbrev pub decreases-loop-rest : goal.decreases-loop-rest
decreases-loop-rest l = length l.rest
