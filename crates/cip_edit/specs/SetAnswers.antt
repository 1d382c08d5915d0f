-- The answer to a record in which a centre is to have a letter. Own; a molfile is read as CTfile Formats says.
use Rattle.std.specs.Prelude.{◌≡◌, ◌≤◌, ◌+◌, ◌-◌, ◌==◌, ℕ, List, false, length, Result, Ok, Err, if◌then◌else◌}
use Rattle.cip_text.specs.Bodies.{body_contents}
use Rattle.cip_rank.specs.declared.rules.Rules.{Rules}
use Rattle.cip_mol.specs.Drawing.{Drawing}
use Rattle.cip_mol.specs.declared.labels.centre_letter.CentreLetter.{CentreLetter}
use Rattle.cip_mol.specs.declared.labels.refusal.ReadFault.{ReadFault}
use Rattle.cip_item.specs.Parts.{without_label_items, has_label_item}
use Rattle.cip_v2000.specs.Version.{is_v3000}
use Rattle.cip_molfile.specs.Molecules.{read_molecule}
use Rattle.cip_edit.specs.Marking.{with_mark}
use Rattle.cip_edit.specs.SetLetters.{mark_for_letter}
use Rattle.cip_edit.specs.declared.request.CentreRefusal.{CentreRefusal}
use Rattle.cip_edit.specs.declared.request.CentreRefusal.TheVariants as centres
use Rattle.cip_edit.specs.declared.request.MarkedCentre.{MarkedCentre}
use Rattle.cip_edit.specs.Answers.{molecule_in}
use Rattle.cip_edit.specs.Changed.{changed_record}
use Rattle.cip_edit.specs.declared.set_answer.SetAnswer.{SetAnswer}
use Rattle.cip_edit.specs.declared.set_answer.SetAnswer.TheVariants.{Written, Refused}
use Rattle.cip_edit.specs.declared.set_answer.SetRefusal.{SetRefusal}
use Rattle.cip_edit.specs.declared.set_answer.SetRefusal.TheVariants as refusals

abbrev pub refusal_of : CentreRefusal → SetRefusal
refusal_of centres.NoCentre = refusals.NoCentre
refusal_of centres.ThreeD = refusals.ThreeD
refusal_of centres.Coincident = refusals.Coincident
refusal_of centres.NoBond = refusals.NoBond
refusal_of centres.Over = refusals.Over
refusal_of centres.Tie = refusals.Tie
refusal_of (centres.OtherKind small) = refusals.OtherKind small

-- the record of a molecule with the mark that was answered for the centre at an atom
abbrev pub set_marked : List ℕ → Drawing → ℕ → Result MarkedCentre CentreRefusal → SetAnswer
set_marked bytes molecule atom (Ok marked) =
    Written (changed_record molecule (with_mark molecule atom marked.neighbour marked.mark).bonds bytes)
set_marked bytes molecule atom (Err refusal) = Refused (refusal_of refusal)

module _ (rules : Rules) (nodes atom : ℕ) (letter : CentreLetter) where
  -- atoms are counted from 1 in what is asked, and from 0 in a drawing
  abbrev pub set_drawn : List ℕ → Drawing → SetAnswer
  set_drawn bytes molecule =
      if is_v3000 (body_contents bytes) then Refused refusals.OnlyV2000
      else if atom == 0 then Refused refusals.NoCentre
      else set_marked bytes molecule (atom - 1) (mark_for_letter rules nodes molecule (atom - 1) letter)

  abbrev pub set_read : List ℕ → Result Drawing ReadFault → SetAnswer
  set_read bytes (Ok molecule) = set_drawn bytes molecule
  set_read bytes (Err fault) = Refused (refusals.Grammar fault)

  -- the answer to a record without label items
  unfoldable pub set_without_items : List ℕ → SetAnswer
  set_without_items bytes = set_read bytes (read_molecule (body_contents bytes))

  abbrev pub set_answer : List ℕ → SetAnswer
  set_answer bytes = set_without_items (without_label_items bytes)

-- what is written is read as the drawing with the mark at the first ligand that can have one, and has no label item
pub record IsMarked (rules : Rules) (nodes atom : ℕ) (letter : CentreLetter) (bytes text : List ℕ) : Type 0 where
  pub molecule : Drawing
  pub marked : MarkedCentre
  pub before : molecule_in bytes ≡ Ok molecule
  pub mark : mark_for_letter rules nodes molecule (atom - 1) letter ≡ Ok marked
  pub behind : molecule_in text ≡ Ok (with_mark molecule (atom - 1) marked.neighbour marked.mark)
  pub free : has_label_item text ≡ false

abbrev pub GivesMark : Rules → ℕ → ℕ → CentreLetter → List ℕ → SetAnswer → Type 0
GivesMark rules nodes atom letter bytes (Written text) = IsMarked rules nodes atom letter bytes text
GivesMark rules nodes atom letter bytes (Refused refusal) = Unit {0}

-- what is written is little longer than the record
abbrev pub IsFew : List ℕ → SetAnswer → Type 0
IsFew bytes (Written text) = length text ≤ length bytes + 65536
IsFew bytes (Refused refusal) = Unit {0}
