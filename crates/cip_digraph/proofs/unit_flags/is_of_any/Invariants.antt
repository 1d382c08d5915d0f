use Rattle.std.proofs.Common.{◌≡◌, drop}
use Rattle.std.specs.List.{list_any}
use Rattle.cip_digraph.specs.rings.Alternating.{is_in}
use Rattle.cip_digraph.specs.units.Ends.{atoms_of}
use Rattle.cip_digraph.proofs.unit_flags.is_of_any.Given as goal

abbrev pub invariant-loop-unit : goal.invariant-loop-unit
invariant-loop-unit l =
    list_any (λ unit. is_in l.vertex (atoms_of unit.site)) (drop l.unit-index l.units)
    ≡ list_any (λ unit. is_in l.vertex (atoms_of unit.site)) l.units
