-- Records of the same molecule in other numberings, and of its mirror image. Own, after IUPAC 2013, P-92.
use Rattle.std.specs.Prelude.{◌≡◌, ℕ, List, length, Ok}
use Rattle.cip_text.specs.Bodies.{body_contents}
use Rattle.cip_rank.specs.Matching.{InPairs}
use Rattle.cip_rank.specs.declared.rules.Rules.{Rules}
use Rattle.cip_mol.specs.Bonds.{IsSound}
use Rattle.cip_mol.specs.Drawing.{Drawing}
use Rattle.cip_mol.specs.Reflection.{reflected}
use Rattle.cip_item.specs.Parts.{without_label_items}
use Rattle.cip_digraph.specs.graph.Renumbering.{IsRenumbering}
use Rattle.cip_symmetry.specs.Images.{Among, IsImageSite, IsImageOutcome}
use Rattle.cip_laws.specs.ReflectionLaw.{IsMirrorOutcome}
use Rattle.cip_laws.specs.RenumberingLaw.{on_vertices}
use Rattle.cip_print.specs.declared.answer.Answer.{Answer}
use Rattle.cip_print.specs.declared.answer.Answer.TheVariants.{Labelled}
use Rattle.cip_print.specs.declared.answer.UnitAnswer.{UnitAnswer}
use Rattle.cip_print.specs.Naming.{name_of}
use Rattle.cip_answer.specs.Answers.{answer_by}
use Rattle.cip_molfile.specs.Molecules.{read_molecule}

-- a record is read as this molecule
abbrev pub IsReadAs : List ℕ → Drawing → Type 0
IsReadAs bytes drawing = read_molecule (body_contents (without_label_items bytes)) ≡ Ok drawing

abbrev pub ReadingsAreSound : Type 0
ReadingsAreSound = (lines : List (List ℕ)) (drawing : Drawing) → read_molecule lines ≡ Ok drawing
    → IsSound (length drawing.atoms) drawing.bonds

-- what is found of a unit goes along, and each is named by its site
pub record IsImageAnswer (image : ℕ → ℕ) (one two : UnitAnswer) : Type 0 where
  pub name : one.name ≡ name_of one.site
  pub named : two.name ≡ name_of two.site
  pub site : IsImageSite image one.site two.site
  pub drawn : two.drawn ≡ one.drawn
  pub outcome : IsImageOutcome image one.site two.site one.outcome two.outcome

-- what is found of each unit of the one goes to what is found of a unit of the other, and back
pub record AnswersGo (image : ℕ → ℕ) (first second : Answer) : Type 0 where
  pub units : List UnitAnswer
  pub others : List UnitAnswer
  pub first_is : first ≡ Labelled units
  pub second_is : second ≡ Labelled others
  pub there : (one : UnitAnswer) → Among one units → (two : UnitAnswer) × Among two others × IsImageAnswer image one two
  pub back : (two : UnitAnswer) → Among two others → (one : UnitAnswer) × Among one units × IsImageAnswer image one two

-- whatever the format, the name and the items of the records
abbrev pub RecordsGo : Type 0
RecordsGo = (rules : Rules) (nodes : ℕ) (one other : List ℕ) (drawing renumbered : Drawing) (image : ℕ → ℕ)
    → IsReadAs one drawing → IsReadAs other renumbered → IsRenumbering drawing renumbered image
    → AnswersGo (on_vertices drawing image) (answer_by rules nodes one) (answer_by rules nodes other)

-- the same unit in the other sense, with the exchanged descriptor
pub record IsMirrorAnswer (one two : UnitAnswer) : Type 0 where
  pub name : two.name ≡ one.name
  pub site : two.site ≡ one.site
  pub drawn : two.drawn ≡ one.drawn
  pub outcome : IsMirrorOutcome one.outcome two.outcome

pub record AnswersMirror (first second : Answer) : Type 0 where
  pub units : List UnitAnswer
  pub others : List UnitAnswer
  pub first_is : first ≡ Labelled units
  pub second_is : second ≡ Labelled others
  pub pairs : InPairs IsMirrorAnswer units others

abbrev pub RecordsMirror : Type 0
RecordsMirror = (rules : Rules) (nodes : ℕ) (one other : List ℕ) (drawing : Drawing)
    → IsReadAs one drawing → IsReadAs other (reflected drawing)
    → AnswersMirror (answer_by rules nodes one) (answer_by rules nodes other)
