use Rattle.std.proofs.Common.{◌≡◌, length, take}
use Rattle.cip_digraph.proofs.drawing.positions.list_of.Given as goal

abbrev pub invariant-loop-place : goal.invariant-loop-place
invariant-loop-place l = record {
  long : length l.numbers ≡ 3;
  upto : take l.place l.numbers ≡ take l.place l.positions;
}
