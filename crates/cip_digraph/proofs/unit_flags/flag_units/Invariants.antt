use Rattle.std.proofs.Common.{◌≡◌, take}
use Rattle.cip_digraph.specs.UnitFlags.{with_flags}
use Rattle.cip_digraph.proofs.lemmas.UnitAtoms.{atoms_in}
use Rattle.cip_digraph.proofs.unit_flags.flag_units.Given as goal

abbrev pub invariant-loop-unit : goal.invariant-loop-unit
invariant-loop-unit l = l.flags.items ≡ with_flags (atoms_in (take l.unit-index l.units)) l.fn.flags.items
