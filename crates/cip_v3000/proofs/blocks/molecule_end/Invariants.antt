use Rattle.std.proofs.Common.{◌≡◌, ◌-◌, drop, length}
use Rattle.std.specs.List.{list_any}
use Rattle.cip_text.specs.Kinds.{is_molecule_end}
use Rattle.cip_text.specs.Slices.{texts}
use Rattle.cip_v3000.proofs.blocks.molecule_end.Given as goal

abbrev pub invariant-loop-place : goal.invariant-loop-place
invariant-loop-place l = list_any is_molecule_end (drop l.place (texts l.lines))
    ≡ list_any is_molecule_end (drop (l.number - 1) (texts l.lines))

abbrev pub decreases-loop-place : goal.decreases-loop-place
decreases-loop-place l = length l.lines - l.place
