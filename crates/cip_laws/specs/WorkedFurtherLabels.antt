-- Worked molecules and what is found of their further units, also in the mirror and in another numbering. Own.
use Rattle.std.specs.Prelude.{◌≡◌, List, [], ◌∷◌, map}
use Rattle.cip_rank.specs.declared.rules.Rules.TheVariants.{Wording2018}
use Rattle.cip_mol.specs.Drawing.{Drawing}
use Rattle.cip_mol.specs.Reflection.{reflected}
use Rattle.cip_mol.specs.RenumberedDrawing.{renumbered}
use Rattle.cip_mol.specs.declared.labels.descriptor.Descriptor.TheVariants.{M, P, Z}
use Rattle.cip_mol.specs.declared.graph.molecule.Mark.TheVariants as marks
use Rattle.cip_mol.specs.declared.labels.outcome.Outcome.{Outcome}
use Rattle.cip_mol.specs.declared.labels.outcome.Rule.TheVariants.{R1a}
use Rattle.cip_digraph.specs.worked.WorkedLabels.{labelled}
use Rattle.cip_axis.specs.Further.{further_in}
use Rattle.cip_axis.specs.FurtherOutcomes.{further_outcome_in}
use Rattle.cip_axis.specs.WorkedFurther.{hexatriene, biphenyl}

abbrev pub found_in : Drawing → List Outcome
found_in drawing = map (further_outcome_in Wording2018 1000 drawing) (further_in drawing)

pub record AreLabelled : Type 0 where
  pub chain : found_in (hexatriene marks.Plain) ≡ labelled Z R1a 1 (0 ∷ 1 ∷ 0 ∷ 1 ∷ []) ∷ []
  pub chain_backwards : found_in
      (renumbered (5 ∷ 4 ∷ 3 ∷ 2 ∷ 1 ∷ 0 ∷ []) (4 ∷ 3 ∷ 2 ∷ 1 ∷ 0 ∷ []) (hexatriene marks.Plain))
      ≡ labelled Z R1a 1 (0 ∷ 1 ∷ 0 ∷ 1 ∷ []) ∷ []
  pub rings : found_in (biphenyl marks.Up marks.Plain) ≡ labelled P R1a 2 (0 ∷ 1 ∷ 0 ∷ 1 ∷ []) ∷ []
  pub rings_mirrored : found_in (reflected (biphenyl marks.Up marks.Plain)) ≡ labelled M R1a 2 (0 ∷ 1 ∷ 0 ∷ 1 ∷ []) ∷ []
