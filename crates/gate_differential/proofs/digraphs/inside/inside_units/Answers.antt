use Rattle.std.proofs.Common.{◌∙◌, ap, map}
use Rattle.std.proofs.lemmas.List.{map-id}
use Rattle.std.proofs.lemmas.Simd.{map-map}
use Rattle.cip_mol.specs.declared.site.Unit as units
use Rattle.gate_differential.proofs.digraphs.inside.inside_units.Goals as goal

pub inside_drawn-requires : goal.inside_drawn-requires
inside_drawn-requires g c = record {
  sites =
      ap (map (λ (unit : units.Unit). unit.site)) (c.list.ensures ∙ c.in_ok-units.ensures) ∙ map-map _ _ _ ∙ map-id _;
}
