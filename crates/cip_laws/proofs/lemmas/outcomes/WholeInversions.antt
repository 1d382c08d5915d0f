-- Turning every centre is reflecting, where no unit is an axis.
use Rattle.std.proofs.Common.{sym, subst}
use Rattle.cip_mol.specs.declared.site.Unit as units
use Rattle.cip_digraph.specs.outcome.Outcomes.{outcome_of}
use Rattle.cip_digraph.specs.rules.Exchange.{reflected_unit}
use Rattle.cip_digraph.specs.units.Inverted.{inverted}
use Rattle.cip_digraph.proofs.lemmas.reflected.Inversions.{held_unit, held_units}
use Rattle.cip_laws.specs.InversionLaw.{WholeInversionsAreMirrors}
use Rattle.cip_laws.specs.ReflectionLaw.{IsMirrorOutcome}
use Rattle.cip_laws.proofs.lemmas.outcomes.ReflectedOutcomes.{reflection_mirrors_outcomes}

pub whole_inversions_are_mirrors : WholeInversionsAreMirrors
whole_inversions_are_mirrors rules graph positions atoms all bound unit held own =
    subst (λ (u : units.Unit). IsMirrorOutcome (outcome_of rules graph positions all bound unit)
    (outcome_of rules graph positions (inverted atoms all) bound u)) (sym (held_unit atoms unit own))
    (subst (λ us. IsMirrorOutcome (outcome_of rules graph positions all bound unit)
    (outcome_of rules graph positions us bound (reflected_unit unit))) (sym (held_units atoms all held))
    (reflection_mirrors_outcomes rules graph positions all bound unit))
