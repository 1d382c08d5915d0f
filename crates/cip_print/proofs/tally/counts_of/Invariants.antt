use Rattle.std.proofs.Common.{◌≡◌, ◌≤◌, ◌+◌, drop}
use Rattle.cip_print.specs.Tallies.{no_units, with_units}
use Rattle.cip_print.proofs.tally.counts_of.Given as goal

abbrev pub invariant-loop-place : goal.invariant-loop-place
invariant-loop-place l = record {
  counted : with_units l.counts (drop l.place l.units) ≡ with_units no_units l.units;
  few : l.counts.labels + l.counts.over + l.counts.ties + l.counts.none ≤ l.place;
}
