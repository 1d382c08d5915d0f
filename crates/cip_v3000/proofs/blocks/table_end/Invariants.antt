use Rattle.std.proofs.Common.{◌≡◌, ◌-◌, drop, length, map}
use Rattle.cip_v3000.specs.Grammar.{table_end}
use Rattle.cip_v3000.specs.Joining.{seen}
use Rattle.cip_v3000.proofs.blocks.table_end.Given as goal

abbrev pub invariant-loop-place : goal.invariant-loop-place
invariant-loop-place l = table_end l.past (drop l.place (map seen l.lines))
    ≡ table_end l.past (drop l.first (map seen l.lines))

abbrev pub decreases-loop-place : goal.decreases-loop-place
decreases-loop-place l = length l.lines - l.place
