-- Worked records with their labels, by all definitions together. Labels from the literature and worked by hand. Own.
use Rattle.std.specs.Prelude.{◌≡◌, ℕ, List, [], ◌∷◌, codes, filter_map, None, Some}
use Rattle.std.specs.declared.option.Option.{Option}
use Rattle.cip_mol.specs.declared.labels.outcome.Outcome.{Outcome}
use Rattle.cip_mol.specs.declared.labels.outcome.Outcome.TheVariants.{Label, Tie, Over, NoGeometry}
use Rattle.cip_rank.specs.declared.rules.Rules.{Rules}
use Rattle.cip_rank.specs.declared.rules.Rules.TheVariants.{Wording2013, Wording2018}
use Rattle.cip_print.specs.declared.answer.Answer.{Answer}
use Rattle.cip_print.specs.declared.answer.Answer.TheVariants.{Labelled, Refused}
use Rattle.cip_print.specs.declared.answer.UnitAnswer.{UnitAnswer}
use Rattle.cip_print.specs.Labels.{label_line}
use Rattle.cip_print.specs.Naming.{name_text}
use Rattle.cip_answer.specs.Answers.{answer_by}
use Rattle.cip_laws.specs.WorkedRecords as records

-- a label without its order
abbrev pub label_of : UnitAnswer → Option (List ℕ)
label_of unit = by_outcome unit.outcome
  where
    by_outcome : Outcome → Option (List ℕ)
    by_outcome (Label label) = Some (label_line (name_text unit.name) label)
    by_outcome Tie = None
    by_outcome Over = None
    by_outcome (NoGeometry cause) = None

abbrev pub labels_in : Answer → List (List ℕ)
labels_in (Labelled units) = filter_map label_of units
labels_in (Refused fault) = []

-- the labels of a record, with room for 100,000 nodes
abbrev pub labels_by : Rules → List ℕ → List (List ℕ)
labels_by rules bytes = labels_in (answer_by rules 100000 bytes)

abbrev pub labels_of : List ℕ → List (List ℕ)
labels_of bytes = labels_by Wording2018 bytes

-- worked examples have the labels that chemists give them
pub record HaveLabels : Type 0 where
  -- Rule 1a: in one sphere after the other, by a mean atomic number, against a lone pair; two oxygens tie
  pub glyceraldehyde : labels_of records.glyceraldehyde ≡ codes "a1 S 1a 2" ∷ []
  pub phenylpyridinylmethanol : labels_of records.phenylpyridinylmethanol ≡ codes "a1 R 1a 3" ∷ []
  pub ethyl_methyl_sulfoxide : labels_of records.ethyl_methyl_sulfoxide ≡ codes "a1 S 1a 2" ∷ []
  pub ethyl_methyl_sulfone : labels_of records.ethyl_methyl_sulfone ≡ []
  pub ammonium : labels_of records.ammonium ≡ codes "a1 S 1a 3" ∷ []
  -- Rules 4a and 4c: an atom with unlike groups is r and precedes one whose like groups tie; r precedes s
  pub pentane_with_one_like_branch : labels_of records.pentane_with_one_like_branch
      ≡ codes "a1 R 4a 1" ∷ codes "a3 r 5 1" ∷ codes "a4 R 1a 1" ∷ codes "a7 S 1a 1" ∷ codes "a11 R 1a 1"
      ∷ codes "a14 R 1a 1" ∷ []
  pub pentane_with_unlike_branches : labels_of records.pentane_with_unlike_branches
      ≡ codes "a1 R 4c 1" ∷ codes "a3 r 5 1" ∷ codes "a4 R 1a 1" ∷ codes "a7 S 1a 1" ∷ codes "a10 s 5 1"
      ∷ codes "a11 R 1a 1"
      ∷ codes "a14 S 1a 1" ∷ []
  -- Rules 1b, 2, 3, 4b and 5; a small letter, and a capital where Rule 5 decides twice
  pub oxirane_carbaldehyde_anion : labels_of records.oxirane_carbaldehyde_anion ≡ codes "a1 R 1b 2" ∷ []
  pub oxirane_carbaldehyde_anion_in_2013 : labels_by Wording2013 records.oxirane_carbaldehyde_anion
      ≡ codes "a1 S 1b 3" ∷ []
  pub isotopic_chloromethane : labels_of records.isotopic_chloromethane ≡ codes "a1 R 2 1" ∷ []
  pub heptadienol : labels_of records.heptadienol ≡ codes "a1 S 3 1" ∷ codes "b3-4 Z 1a 1" ∷ codes "b6-7 E 1a 1" ∷ []
  pub tetrachloroheptanol : labels_of records.tetrachloroheptanol ≡ codes "a1 S 4b 2" ∷ codes "a3 R 1a 2"
      ∷ codes "a5 R 1a 2" ∷ codes "a8 R 1a 2" ∷ codes "a10 S 1a 2" ∷ []
  pub trihydroxyglutaric_acid : labels_of records.trihydroxyglutaric_acid ≡ codes "a2 R 1a 2" ∷ codes "a3 s 5 1"
      ∷ codes "a4 S 1a 2" ∷ []
  pub two_pairs : labels_of records.two_pairs ≡ codes "a1 R 5 1" ∷ codes "a2 R 1a 1" ∷ codes "a3 S 1a 1"
      ∷ codes "a4 R 1a 1" ∷ codes "a5 S 1a 1" ∷ []
  pub two_pairs_mirrored : labels_of records.two_pairs_mirrored ≡ codes "a1 S 5 1" ∷ codes "a2 S 1a 1"
      ∷ codes "a3 R 1a 1" ∷ codes "a4 S 1a 1" ∷ codes "a5 R 1a 1" ∷ []
  -- double bonds, in rings too, and an allene
  pub but_2_ene_z : labels_of records.but_2_ene_z ≡ codes "b2-3 Z 1a 1" ∷ []
  pub but_2_ene_e : labels_of records.but_2_ene_e ≡ codes "b2-3 E 1a 1" ∷ []
  pub but_2_ene_undecided : labels_of records.but_2_ene_undecided ≡ []
  pub cyclooctene : labels_of records.cyclooctene ≡ codes "b1-2 Z 1a 1" ∷ []
  pub cyclohexene : labels_of records.cyclohexene ≡ []
  pub dichloropropadiene : labels_of records.dichloropropadiene ≡ codes "x1-3 M 1a 1" ∷ []
  pub dichloropropadiene_mirrored : labels_of records.dichloropropadiene_mirrored ≡ codes "x1-3 P 1a 1" ∷ []
  -- a molecule as catalogues have it
  pub menthol : labels_of records.menthol ≡ codes "a1 R 1a 2" ∷ codes "a2 S 1a 2" ∷ codes "a5 R 1a 3" ∷ []
