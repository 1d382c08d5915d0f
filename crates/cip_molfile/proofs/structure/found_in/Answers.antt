use Rattle.cip_molfile.proofs.lemmas.FitDrawings.{made_fits}
use Rattle.cip_molfile.proofs.structure.found_in.Goals as goal

pub returns-in-Ok-units : goal.returns-in-Ok-units
returns-in-Ok-units c =
    made_fits c.args.molecule.now c.atoms-atoms.ensures.range.few_atoms c.in-Ok.graph c.in-Ok-positions.positions
    c.in-Ok-units.units c.in-Ok.ensures c.in-Ok-positions.ensures c.in-Ok-units.ensures
