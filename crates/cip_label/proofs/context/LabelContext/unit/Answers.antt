use Rattle.std.proofs.Common.{◌∙◌}
use Rattle.cip_label.proofs.lemmas.FitUnits.{unit_fit}
use Rattle.cip_label.proofs.context.LabelContext.unit.Goals as goal

pub returns-clause-fit : goal.returns-clause-fit
returns-clause-fit c =
    unit_fit c.args.self.now c.as_slice.result.now c.args.place c.index-as_slice-place.result c.units.ensures.proper
    (c.as_slice.ensures ∙ c.units.ensures.value) c.requires c.index-as_slice-place.is
