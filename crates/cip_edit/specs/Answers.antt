-- The answer to a record that is to be mirrored. Own; a molfile is read as CTfile Formats says.
use Rattle.std.specs.Prelude.{◌≡◌, ◌≤◌, ◌+◌, ℕ, pos, List, Bool, false, int_lt, length, Result, Ok, Err, if◌then◌else◌}
use Rattle.std.specs.List.{list_any}
use Rattle.cip_text.specs.Bodies.{body_contents}
use Rattle.cip_mol.specs.Drawing.{Drawing}
use Rattle.cip_mol.specs.Reflection.{reflected}
use Rattle.cip_mol.specs.declared.graph.molecule.Atom.{Atom}
use Rattle.cip_mol.specs.declared.labels.refusal.ReadFault.{ReadFault}
use Rattle.cip_item.specs.Parts.{without_label_items, has_label_item}
use Rattle.cip_v2000.specs.Version.{is_v3000}
use Rattle.cip_molfile.specs.Molecules.{read_molecule}
use Rattle.cip_edit.specs.Mirror.{mirrored_record}
use Rattle.cip_edit.specs.declared.mirror_answer.MirrorAnswer.{MirrorAnswer}
use Rattle.cip_edit.specs.declared.mirror_answer.MirrorAnswer.TheVariants.{Written, Refused}
use Rattle.cip_edit.specs.declared.mirror_answer.MirrorRefusal.TheVariants.{Grammar, OnlyV2000, Width}

-- the molecule of a record, whose label items are taken out first
abbrev pub molecule_in : List ℕ → Result Drawing ReadFault
molecule_in bytes = read_molecule (body_contents (without_label_items bytes))

-- a z above 9,999.9999 has no room for its sign
abbrev pub is_too_high : Atom → Bool
is_too_high atom = int_lt (pos 99999999) atom.at.z

abbrev pub answer_drawn : List ℕ → Drawing → MirrorAnswer
answer_drawn bytes molecule =
    if is_v3000 (body_contents bytes) then Refused OnlyV2000
    else if list_any is_too_high molecule.atoms then Refused Width
    else Written (mirrored_record molecule bytes)

abbrev pub answer_read : List ℕ → Result Drawing ReadFault → MirrorAnswer
answer_read bytes (Ok molecule) = answer_drawn bytes molecule
answer_read bytes (Err fault) = Refused (Grammar fault)

-- the answer to a record without label items
unfoldable pub answer_without_items : List ℕ → MirrorAnswer
answer_without_items bytes = answer_read bytes (read_molecule (body_contents bytes))

abbrev pub mirror_answer : List ℕ → MirrorAnswer
mirror_answer bytes = answer_without_items (without_label_items bytes)

-- what is written is read as the mirror image of what was read, and has no label item
pub record IsMirrored (bytes text : List ℕ) : Type 0 where
  pub molecule : Drawing
  pub before : molecule_in bytes ≡ Ok molecule
  pub behind : molecule_in text ≡ Ok (reflected molecule)
  pub free : has_label_item text ≡ false

abbrev pub GivesReflected : List ℕ → MirrorAnswer → Type 0
GivesReflected bytes (Written text) = IsMirrored bytes text
GivesReflected bytes (Refused refusal) = Unit {0}

-- what is written is little longer than the record
abbrev pub IsFew : List ℕ → MirrorAnswer → Type 0
IsFew bytes (Written text) = length text ≤ length bytes + 65536
IsFew bytes (Refused refusal) = Unit {0}
