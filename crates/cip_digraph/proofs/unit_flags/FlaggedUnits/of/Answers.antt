use Rattle.std.proofs.Common.{sym, ap, ◌∙◌, subst}
use Rattle.cip_digraph.specs.UnitFlags.{with_flags, AreUnitFlags}
use Rattle.cip_digraph.proofs.lemmas.UnitAtoms.{atoms_in, flags_all}
use Rattle.cip_digraph.proofs.unit_flags.FlaggedUnits.of.Goals as goal

pub invariant_of-result : goal.invariant_of-result
invariant_of-result c =
    let all = c.args.units.now in
    subst (AreUnitFlags all) (sym (c.flag_units.ensures ∙ ap (with_flags (atoms_in all)) c.clear_flags.ensures))
    (flags_all all c.args.count)
