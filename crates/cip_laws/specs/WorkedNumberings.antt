-- Worked molecules in other numberings, and their mirror images. What is expected was worked from the labels of the
-- molecules as they are drawn by the permutations alone. Own.
use Rattle.std.specs.Prelude.{◌≡◌, ℕ, List, [], ◌∷◌, map, flat_map, length, cond, nat_lt, None, Some}
use Rattle.std.specs.declared.option.Option.{Option}
use Rattle.cip_rank.specs.declared.rules.Rules.TheVariants.{Wording2018}
use Rattle.cip_mol.specs.Drawing.{Drawing}
use Rattle.cip_mol.specs.Reflection.{reflected}
use Rattle.cip_mol.specs.RenumberedDrawing.{renumbered}
use Rattle.cip_mol.specs.declared.labels.descriptor.Descriptor.{Descriptor}
use Rattle.cip_mol.specs.declared.labels.descriptor.Descriptor.TheVariants.{R, S, SmallS, M, P, Z}
use Rattle.cip_mol.specs.declared.labels.outcome.Outcome.{Outcome}
use Rattle.cip_mol.specs.declared.labels.outcome.Outcome.TheVariants.{Label, Tie, Over, NoGeometry}
use Rattle.cip_mol.specs.declared.labels.outcome.Rule.{Rule}
use Rattle.cip_mol.specs.declared.labels.outcome.Rule.TheVariants.{R1a, R5}
use Rattle.cip_mol.specs.declared.site.Ligand.{Ligand}
use Rattle.cip_mol.specs.declared.site.Ligand.TheVariants.{Vertex, LonePair}
use Rattle.cip_mol.specs.declared.site.Site.{Site}
use Rattle.cip_digraph.specs.units.Ends.{ends_of}
use Rattle.cip_laws.specs.DrawnMolecules.{bromochlorofluoromethane, but_2_ene, dichloropropadiene, glyceraldehyde, trihydroxyglutaric_acid, menthol}
use Rattle.cip_laws.specs.DrawnOutcomes.{units_in, outcome_in}
use Rattle.cip_symmetry.specs.Images.{ligands_in_rank}

-- a label with its ends and, for each of them, the atoms of its ligands, highest first: none for a hydrogen that isn't
-- drawn
pub record Found : Type 0 where
  pub ends : List ℕ
  pub letter : Descriptor
  pub rule : Rule
  pub sphere : ℕ
  pub ligands : List (List (Option ℕ))

abbrev pub at_centre : ℕ → Descriptor → Rule → ℕ → List (Option ℕ) → Found
at_centre atom letter rule sphere ligands =
    record { ends = atom ∷ []; letter = letter; rule = rule; sphere = sphere; ligands = ligands ∷ [] }

abbrev pub at_ends : ℕ → ℕ → Descriptor → Rule → ℕ → List (Option ℕ) → List (Option ℕ) → Found
at_ends a b letter rule sphere first second =
    record { ends = a ∷ b ∷ []; letter = letter; rule = rule; sphere = sphere; ligands = first ∷ second ∷ [] }

abbrev pub atom_of : ℕ → Ligand → Option ℕ
atom_of drawn (Vertex vertex) = cond (nat_lt vertex drawn) (Some vertex) None
atom_of drawn LonePair = None

abbrev pub found_of : ℕ → Site → Outcome → List Found
found_of drawn site (Label label) =
    record {
      ends = map (λ end. end.at) (ends_of site);
      letter = label.letter;
      rule = label.rule;
      sphere = label.sphere;
      ligands = map (map (atom_of drawn)) (ligands_in_rank (ends_of site) label.order);
    } ∷ []
found_of drawn site Tie = []
found_of drawn site Over = []
found_of drawn site (NoGeometry cause) = []

abbrev pub labels_in : Drawing → List Found
labels_in drawing =
    flat_map (λ unit. found_of (length drawing.atoms) unit.site (outcome_in Wording2018 1000 drawing unit))
    (units_in drawing)

-- each molecule as it is drawn, with its numbers turned round, with each atom one place on, and mixed
pub record AreRenumbered : Type 0 where
  pub bromochlorofluoromethane_as_drawn : labels_in bromochlorofluoromethane
      ≡ at_centre 0 S R1a 1 (Some 3 ∷ Some 2 ∷ Some 1 ∷ Some 4 ∷ [])
      ∷ []
  pub bromochlorofluoromethane_backwards : labels_in
      (renumbered (4 ∷ 3 ∷ 2 ∷ 1 ∷ 0 ∷ []) (3 ∷ 2 ∷ 1 ∷ 0 ∷ []) bromochlorofluoromethane)
      ≡ at_centre 4 S R1a 1 (Some 1 ∷ Some 2 ∷ Some 3 ∷ Some 0 ∷ [])
      ∷ []
  pub bromochlorofluoromethane_one_on : labels_in
      (renumbered (1 ∷ 2 ∷ 3 ∷ 4 ∷ 0 ∷ []) (0 ∷ 1 ∷ 2 ∷ 3 ∷ []) bromochlorofluoromethane)
      ≡ at_centre 1 S R1a 1 (Some 4 ∷ Some 3 ∷ Some 2 ∷ Some 0 ∷ [])
      ∷ []
  pub bromochlorofluoromethane_mixed : labels_in
      (renumbered (3 ∷ 0 ∷ 4 ∷ 1 ∷ 2 ∷ []) (2 ∷ 0 ∷ 3 ∷ 1 ∷ []) bromochlorofluoromethane)
      ≡ at_centre 3 S R1a 1 (Some 1 ∷ Some 4 ∷ Some 0 ∷ Some 2 ∷ [])
      ∷ []
  pub but_2_ene_as_drawn : labels_in but_2_ene
      ≡ at_ends 1 2 Z R1a 1 (Some 0 ∷ None ∷ []) (Some 3 ∷ None ∷ [])
      ∷ []
  pub but_2_ene_backwards : labels_in (renumbered (3 ∷ 2 ∷ 1 ∷ 0 ∷ []) (2 ∷ 1 ∷ 0 ∷ []) but_2_ene)
      ≡ at_ends 1 2 Z R1a 1 (Some 0 ∷ None ∷ []) (Some 3 ∷ None ∷ [])
      ∷ []
  pub but_2_ene_one_on : labels_in (renumbered (1 ∷ 2 ∷ 3 ∷ 0 ∷ []) (0 ∷ 1 ∷ 2 ∷ []) but_2_ene)
      ≡ at_ends 2 3 Z R1a 1 (Some 1 ∷ None ∷ []) (Some 0 ∷ None ∷ [])
      ∷ []
  pub but_2_ene_mixed : labels_in (renumbered (2 ∷ 0 ∷ 3 ∷ 1 ∷ []) (1 ∷ 2 ∷ 0 ∷ []) but_2_ene)
      ≡ at_ends 0 3 Z R1a 1 (Some 2 ∷ None ∷ []) (Some 1 ∷ None ∷ [])
      ∷ []
  pub dichloropropadiene_as_drawn : labels_in dichloropropadiene
      ≡ at_ends 0 2 M R1a 1 (Some 3 ∷ None ∷ []) (Some 4 ∷ None ∷ [])
      ∷ []
  pub dichloropropadiene_backwards : labels_in
      (renumbered (4 ∷ 3 ∷ 2 ∷ 1 ∷ 0 ∷ []) (3 ∷ 2 ∷ 1 ∷ 0 ∷ []) dichloropropadiene)
      ≡ at_ends 2 4 M R1a 1 (Some 0 ∷ None ∷ []) (Some 1 ∷ None ∷ [])
      ∷ []
  pub dichloropropadiene_one_on : labels_in
      (renumbered (1 ∷ 2 ∷ 3 ∷ 4 ∷ 0 ∷ []) (0 ∷ 1 ∷ 2 ∷ 3 ∷ []) dichloropropadiene)
      ≡ at_ends 1 3 M R1a 1 (Some 4 ∷ None ∷ []) (Some 0 ∷ None ∷ [])
      ∷ []
  pub dichloropropadiene_mixed : labels_in (renumbered (3 ∷ 0 ∷ 4 ∷ 1 ∷ 2 ∷ []) (2 ∷ 0 ∷ 3 ∷ 1 ∷ []) dichloropropadiene)
      ≡ at_ends 3 4 M R1a 1 (Some 1 ∷ None ∷ []) (Some 2 ∷ None ∷ [])
      ∷ []
  pub glyceraldehyde_as_drawn : labels_in glyceraldehyde
      ≡ at_centre 0 S R1a 2 (Some 3 ∷ Some 1 ∷ Some 4 ∷ None ∷ [])
      ∷ []
  pub glyceraldehyde_backwards : labels_in
      (renumbered (5 ∷ 4 ∷ 3 ∷ 2 ∷ 1 ∷ 0 ∷ []) (4 ∷ 3 ∷ 2 ∷ 1 ∷ 0 ∷ []) glyceraldehyde)
      ≡ at_centre 5 S R1a 2 (Some 2 ∷ Some 4 ∷ Some 1 ∷ None ∷ [])
      ∷ []
  pub glyceraldehyde_one_on : labels_in
      (renumbered (1 ∷ 2 ∷ 3 ∷ 4 ∷ 5 ∷ 0 ∷ []) (0 ∷ 1 ∷ 2 ∷ 3 ∷ 4 ∷ []) glyceraldehyde)
      ≡ at_centre 1 S R1a 2 (Some 4 ∷ Some 2 ∷ Some 5 ∷ None ∷ [])
      ∷ []
  pub glyceraldehyde_mixed : labels_in (renumbered (2 ∷ 5 ∷ 0 ∷ 4 ∷ 1 ∷ 3 ∷ []) (3 ∷ 0 ∷ 4 ∷ 1 ∷ 2 ∷ []) glyceraldehyde)
      ≡ at_centre 2 S R1a 2 (Some 4 ∷ Some 5 ∷ Some 1 ∷ None ∷ [])
      ∷ []
  pub trihydroxyglutaric_acid_as_drawn : labels_in trihydroxyglutaric_acid
      ≡ at_centre 1 R R1a 2 (Some 5 ∷ Some 0 ∷ Some 2 ∷ None ∷ [])
      ∷ at_centre 2 SmallS R5 1 (Some 6 ∷ Some 1 ∷ Some 3 ∷ None ∷ [])
      ∷ at_centre 3 S R1a 2 (Some 7 ∷ Some 4 ∷ Some 2 ∷ None ∷ [])
      ∷ []
  pub trihydroxyglutaric_acid_backwards : labels_in
      (renumbered (11 ∷ 10 ∷ 9 ∷ 8 ∷ 7 ∷ 6 ∷ 5 ∷ 4 ∷ 3 ∷ 2 ∷ 1 ∷ 0 ∷ [])
      (10 ∷ 9 ∷ 8 ∷ 7 ∷ 6 ∷ 5 ∷ 4 ∷ 3 ∷ 2 ∷ 1 ∷ 0 ∷ []) trihydroxyglutaric_acid)
      ≡ at_centre 8 S R1a 2 (Some 4 ∷ Some 7 ∷ Some 9 ∷ None ∷ [])
      ∷ at_centre 9 SmallS R5 1 (Some 5 ∷ Some 10 ∷ Some 8 ∷ None ∷ [])
      ∷ at_centre 10 R R1a 2 (Some 6 ∷ Some 11 ∷ Some 9 ∷ None ∷ [])
      ∷ []
  pub trihydroxyglutaric_acid_one_on : labels_in
      (renumbered (1 ∷ 2 ∷ 3 ∷ 4 ∷ 5 ∷ 6 ∷ 7 ∷ 8 ∷ 9 ∷ 10 ∷ 11 ∷ 0 ∷ [])
      (0 ∷ 1 ∷ 2 ∷ 3 ∷ 4 ∷ 5 ∷ 6 ∷ 7 ∷ 8 ∷ 9 ∷ 10 ∷ []) trihydroxyglutaric_acid)
      ≡ at_centre 2 R R1a 2 (Some 6 ∷ Some 1 ∷ Some 3 ∷ None ∷ [])
      ∷ at_centre 3 SmallS R5 1 (Some 7 ∷ Some 2 ∷ Some 4 ∷ None ∷ [])
      ∷ at_centre 4 S R1a 2 (Some 8 ∷ Some 5 ∷ Some 3 ∷ None ∷ [])
      ∷ []
  pub trihydroxyglutaric_acid_mixed : labels_in
      (renumbered (7 ∷ 2 ∷ 9 ∷ 0 ∷ 11 ∷ 5 ∷ 3 ∷ 8 ∷ 1 ∷ 10 ∷ 4 ∷ 6 ∷ [])
      (3 ∷ 7 ∷ 0 ∷ 9 ∷ 5 ∷ 1 ∷ 10 ∷ 4 ∷ 8 ∷ 2 ∷ 6 ∷ []) trihydroxyglutaric_acid)
      ≡ at_centre 0 S R1a 2 (Some 8 ∷ Some 11 ∷ Some 9 ∷ None ∷ [])
      ∷ at_centre 2 R R1a 2 (Some 5 ∷ Some 7 ∷ Some 9 ∷ None ∷ [])
      ∷ at_centre 9 SmallS R5 1 (Some 3 ∷ Some 2 ∷ Some 0 ∷ None ∷ [])
      ∷ []
  pub menthol_as_drawn : labels_in menthol
      ≡ at_centre 0 R R1a 2 (Some 6 ∷ Some 1 ∷ Some 5 ∷ None ∷ [])
      ∷ at_centre 1 S R1a 2 (Some 0 ∷ Some 7 ∷ Some 2 ∷ None ∷ [])
      ∷ at_centre 4 R R1a 3 (Some 5 ∷ Some 3 ∷ Some 10 ∷ None ∷ [])
      ∷ []
  pub menthol_backwards : labels_in
      (renumbered (10 ∷ 9 ∷ 8 ∷ 7 ∷ 6 ∷ 5 ∷ 4 ∷ 3 ∷ 2 ∷ 1 ∷ 0 ∷ []) (10 ∷ 9 ∷ 8 ∷ 7 ∷ 6 ∷ 5 ∷ 4 ∷ 3 ∷ 2 ∷ 1 ∷ 0 ∷ [])
      menthol)
      ≡ at_centre 6 R R1a 3 (Some 5 ∷ Some 7 ∷ Some 0 ∷ None ∷ [])
      ∷ at_centre 9 S R1a 2 (Some 10 ∷ Some 3 ∷ Some 8 ∷ None ∷ [])
      ∷ at_centre 10 R R1a 2 (Some 4 ∷ Some 9 ∷ Some 5 ∷ None ∷ [])
      ∷ []

pub record AreMirrored : Type 0 where
  pub bromochlorofluoromethane_mirrored : labels_in (reflected bromochlorofluoromethane)
      ≡ at_centre 0 R R1a 1 (Some 3 ∷ Some 2 ∷ Some 1 ∷ Some 4 ∷ [])
      ∷ []
  pub but_2_ene_mirrored : labels_in (reflected but_2_ene)
      ≡ at_ends 1 2 Z R1a 1 (Some 0 ∷ None ∷ []) (Some 3 ∷ None ∷ [])
      ∷ []
  pub dichloropropadiene_mirrored : labels_in (reflected dichloropropadiene)
      ≡ at_ends 0 2 P R1a 1 (Some 3 ∷ None ∷ []) (Some 4 ∷ None ∷ [])
      ∷ []
  pub glyceraldehyde_mirrored : labels_in (reflected glyceraldehyde)
      ≡ at_centre 0 R R1a 2 (Some 3 ∷ Some 1 ∷ Some 4 ∷ None ∷ [])
      ∷ []
  pub trihydroxyglutaric_acid_mirrored : labels_in (reflected trihydroxyglutaric_acid)
      ≡ at_centre 1 S R1a 2 (Some 5 ∷ Some 0 ∷ Some 2 ∷ None ∷ [])
      ∷ at_centre 2 SmallS R5 1 (Some 6 ∷ Some 3 ∷ Some 1 ∷ None ∷ [])
      ∷ at_centre 3 R R1a 2 (Some 7 ∷ Some 4 ∷ Some 2 ∷ None ∷ [])
      ∷ []
