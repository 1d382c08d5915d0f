-- What is expected of the units of worked examples, with senses read off their drawings by hand. Own.
use Rattle.std.specs.Prelude.{◌≡◌, ℕ, List, [], ◌∷◌, None, Some}
use Rattle.std.specs.declared.option.Option.{Option}
use Rattle.cip_rank.specs.declared.rules.Rules.TheVariants.{Wording2013, Wording2018}
use Rattle.cip_mol.specs.Drawing.{Drawing}
use Rattle.cip_mol.specs.declared.labels.descriptor.Descriptor.{Descriptor}
use Rattle.cip_mol.specs.declared.labels.descriptor.Descriptor.TheVariants.{R, S, SmallR, SmallS, M, Z, E}
use Rattle.cip_mol.specs.declared.labels.outcome.Outcome.{Outcome}
use Rattle.cip_mol.specs.declared.labels.outcome.Outcome.TheVariants.{Label, Tie, Over, NoGeometry}
use Rattle.cip_mol.specs.declared.labels.outcome.Rule.{Rule}
use Rattle.cip_mol.specs.declared.labels.outcome.Rule.TheVariants.{R1a, R1b, R2, R3, R4a, R4b, R4c, R5}
use Rattle.cip_mol.specs.declared.site.Cause.TheVariants.{NoMark}
use Rattle.cip_mol.specs.declared.site.Geometry.{Geometry}
use Rattle.cip_digraph.specs.rules.Auxiliary.{auxiliary}
use Rattle.cip_digraph.specs.graph.DrawnGraph.{graph_of}
use Rattle.cip_digraph.specs.rings.Positions.{positions_of}
use Rattle.cip_digraph.specs.units.Units.{sites_of}
use Rattle.cip_digraph.specs.worked.Molecules.{glyceraldehyde, methylcyclopropane, isotopic_chloromethane, phenyl_pyridinyl_methanol, oxirane_carbaldehyde_anion, heptadienol, tetrachloroheptanol, trihydroxyglutaric_acid, two_pairs, branched_pentane, ethyl_methyl_sulfone, ethyl_methyl_sulfoxide, tetrahedrane, dichloropropadiene, plus, minus, unmarked}
use Rattle.cip_digraph.specs.worked.Trying.{with_geometries, outcomes}

-- the places of the ligands with the highest first
abbrev pub labelled : Descriptor → Rule → ℕ → List ℕ → Outcome
labelled letter rule sphere order = Label (record { letter = letter; rule = rule; sphere = sphere; order = order })

-- a descriptor in the digraph of some root
abbrev pub descriptor_in : Drawing → List Geometry → List ℕ → Option Descriptor
descriptor_in drawing geometries path =
    let graph = graph_of drawing in
    let positions = positions_of graph in
    auxiliary Wording2018 graph positions (with_geometries (sites_of graph positions) geometries) path

-- the acid's three centres, as they are drawn
abbrev pub acid_geometries : List Geometry
acid_geometries = minus ∷ plus ∷ minus ∷ []

pub record AreLabelled : Type 0 where
  -- Rule 1a, in the sphere of the sets {O, O, H} and {O, H, H}; and in the next one by a mean atomic number
  pub glyceraldehyde : outcomes Wording2018 12 glyceraldehyde (minus ∷ []) ≡ labelled S R1a 2 (1 ∷ 0 ∷ 2 ∷ 3 ∷ []) ∷ []
  pub pyridine : outcomes Wording2018 1000 phenyl_pyridinyl_methanol (minus ∷ [])
      ≡ labelled R R1a 3 (0 ∷ 1 ∷ 2 ∷ 3 ∷ []) ∷ []
  -- a lone pair is below all ligands
  pub sulfoxide : outcomes Wording2018 1000 ethyl_methyl_sulfoxide (minus ∷ [])
      ≡ labelled S R1a 2 (0 ∷ 2 ∷ 1 ∷ 3 ∷ []) ∷ []
  pub allene : outcomes Wording2018 1000 dichloropropadiene (minus ∷ []) ≡ labelled M R1a 1 (0 ∷ 1 ∷ 0 ∷ 1 ∷ []) ∷ []
  -- Rule 1b in its two wordings, which part here
  pub oxirane_as_printed : outcomes Wording2013 17 oxirane_carbaldehyde_anion (plus ∷ unmarked ∷ [])
      ≡ labelled S R1b 3 (0 ∷ 1 ∷ 2 ∷ 3 ∷ []) ∷ NoGeometry NoMark ∷ []
  pub oxirane_as_corrected : outcomes Wording2018 17 oxirane_carbaldehyde_anion (plus ∷ unmarked ∷ [])
      ≡ labelled R R1b 2 (0 ∷ 2 ∷ 1 ∷ 3 ∷ []) ∷ NoGeometry NoMark ∷ []
  -- Rules 2 and 3
  pub chloromethane : outcomes Wording2018 1000 isotopic_chloromethane (minus ∷ [])
      ≡ labelled R R2 1 (0 ∷ 1 ∷ 2 ∷ 3 ∷ []) ∷ []
  pub heptadienol : outcomes Wording2018 1000 heptadienol (plus ∷ plus ∷ minus ∷ [])
      ≡ labelled S R3 1 (0 ∷ 1 ∷ 2 ∷ 3 ∷ []) ∷ labelled Z R1a 1 (0 ∷ 1 ∷ 0 ∷ 1 ∷ []) ∷
      labelled E R1a 1 (0 ∷ 1 ∷ 0 ∷ 1 ∷ []) ∷ []
  -- Rule 4a: the one branch has the groups R and S, so that its atom 2 is r by Rule 5; at atom 9 of the other both are R and tie, and a
  -- stereogenic atom precedes one that isn't. At 3 the ligands are 2, F, Cl and H, of which chlorine is the highest
  pub stereogenic_first : outcomes Wording2018 1000 branched_pentane (minus ∷ minus ∷ plus ∷ minus ∷ plus ∷ plus ∷ plus ∷ [])
      ≡ labelled R R4a 1 (0 ∷ 1 ∷ 2 ∷ 3 ∷ []) ∷ labelled SmallR R5 1 (1 ∷ 2 ∷ 0 ∷ 3 ∷ []) ∷ labelled R R1a 1 (2 ∷ 1 ∷ 0 ∷ 3 ∷ [])
      ∷ labelled S R1a 1 (2 ∷ 1 ∷ 0 ∷ 3 ∷ []) ∷ Tie ∷ labelled R R1a 1 (2 ∷ 1 ∷ 0 ∷ 3 ∷ []) ∷ labelled R R1a 1 (2 ∷ 1 ∷ 0 ∷ 3 ∷ []) ∷ []
  -- Rule 4b: like before unlike
  pub tetrachloroheptanol : outcomes Wording2018 1000 tetrachloroheptanol (plus ∷ minus ∷ plus ∷ minus ∷ minus ∷ [])
      ≡ labelled S R4b 2 (0 ∷ 1 ∷ 2 ∷ 3 ∷ []) ∷ labelled R R1a 2 (1 ∷ 2 ∷ 0 ∷ 3 ∷ []) ∷
      labelled R R1a 2 (1 ∷ 0 ∷ 2 ∷ 3 ∷ [])
      ∷ labelled R R1a 2 (1 ∷ 2 ∷ 0 ∷ 3 ∷ []) ∷ labelled S R1a 2 (1 ∷ 0 ∷ 2 ∷ 3 ∷ []) ∷ []
  -- Rule 4c: both branches have the groups R and S, and their atoms 2 and 9 are r and s
  pub r_before_s : outcomes Wording2018 1000 branched_pentane (minus ∷ minus ∷ plus ∷ minus ∷ plus ∷ plus ∷ minus ∷ [])
      ≡ labelled R R4c 1 (0 ∷ 1 ∷ 2 ∷ 3 ∷ []) ∷ labelled SmallR R5 1 (1 ∷ 2 ∷ 0 ∷ 3 ∷ []) ∷ labelled R R1a 1 (2 ∷ 1 ∷ 0 ∷ 3 ∷ [])
      ∷ labelled S R1a 1 (2 ∷ 1 ∷ 0 ∷ 3 ∷ []) ∷ labelled SmallS R5 1 (1 ∷ 2 ∷ 0 ∷ 3 ∷ []) ∷ labelled R R1a 1 (2 ∷ 1 ∷ 0 ∷ 3 ∷ [])
      ∷ labelled S R1a 1 (2 ∷ 1 ∷ 0 ∷ 3 ∷ []) ∷ []
  -- Rule 5: the one pair that it decides makes the letter small, two pairs leave it a capital
  pub acid : outcomes Wording2018 1000 trihydroxyglutaric_acid acid_geometries
      ≡ labelled R R1a 2 (2 ∷ 0 ∷ 1 ∷ 3 ∷ []) ∷ labelled SmallS R5 1 (2 ∷ 0 ∷ 1 ∷ 3 ∷ []) ∷
      labelled S R1a 2 (2 ∷ 1 ∷ 0 ∷ 3 ∷ []) ∷ []
  pub two_pairs : outcomes Wording2018 1000 two_pairs (minus ∷ minus ∷ plus ∷ minus ∷ plus ∷ [])
      ≡ labelled R R5 1 (0 ∷ 1 ∷ 2 ∷ 3 ∷ []) ∷ labelled R R1a 1 (1 ∷ 2 ∷ 0 ∷ 3 ∷ []) ∷
      labelled S R1a 1 (1 ∷ 2 ∷ 0 ∷ 3 ∷ [])
      ∷ labelled R R1a 1 (1 ∷ 2 ∷ 0 ∷ 3 ∷ []) ∷ labelled S R1a 1 (1 ∷ 2 ∷ 0 ∷ 3 ∷ []) ∷ []

-- the acid's outer centres in the digraph of its middle one, which has none itself
pub record HaveAuxiliaries : Type 0 where
  pub one : descriptor_in trihydroxyglutaric_acid acid_geometries (1 ∷ 2 ∷ []) ≡ Some R
  pub other : descriptor_in trihydroxyglutaric_acid acid_geometries (3 ∷ 2 ∷ []) ≡ Some S
  pub root : descriptor_in trihydroxyglutaric_acid acid_geometries (2 ∷ []) ≡ None

pub record AreBounded : Type 0 where
  pub glyceraldehyde_over : outcomes Wording2018 11 glyceraldehyde (minus ∷ []) ≡ Over ∷ []
  pub oxirane_over : outcomes Wording2013 16 oxirane_carbaldehyde_anion (plus ∷ unmarked ∷ [])
      ≡ Over ∷ NoGeometry NoMark ∷ []
  pub sulfone_ties : outcomes Wording2018 1000 ethyl_methyl_sulfone (minus ∷ []) ≡ Tie ∷ []
  pub ring_ties : outcomes Wording2018 20 methylcyclopropane (minus ∷ []) ≡ Tie ∷ []
  pub ring_over : outcomes Wording2018 19 methylcyclopropane (minus ∷ []) ≡ Over ∷ []
  pub tetrahedrane_ties : outcomes Wording2018 50 tetrahedrane (minus ∷ [])
      ≡ Tie ∷ NoGeometry NoMark ∷ NoGeometry NoMark ∷ NoGeometry NoMark ∷ []
  pub tetrahedrane_over : outcomes Wording2018 49 tetrahedrane (minus ∷ [])
      ≡ Over ∷ NoGeometry NoMark ∷ NoGeometry NoMark ∷ NoGeometry NoMark ∷ []
