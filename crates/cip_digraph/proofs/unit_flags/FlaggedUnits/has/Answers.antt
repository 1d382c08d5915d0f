use Rattle.std.proofs.Common.{List, ◌∙◌, ap}
use Rattle.std.specs.Prelude.{flat_map}
use Rattle.cip_mol.specs.declared.site.Unit.{Unit}
use Rattle.cip_digraph.specs.rings.Alternating.{is_in}
use Rattle.cip_digraph.specs.units.Ends.{atoms_of}
use Rattle.cip_digraph.proofs.lemmas.UnitAtoms.{any_unit}
use Rattle.cip_digraph.proofs.unit_flags.FlaggedUnits.has.Goals as goal

pub returns-else-vertex-len : goal.returns-else-vertex-len
returns-else-vertex-len c =
    c.is_of_any.ensures ∙ any_unit c.self.inside.units.now c.args.vertex
    ∙ ap (λ (all : List Unit). is_in c.args.vertex (flat_map (λ (unit : Unit). atoms_of unit.site) all)) c.self.view_is
