-- The parts of a record that is edited.
use Rattle.std.proofs.Common.{◌+◌, ℕ, List, [], ◌∷◌, sym, ◌∙◌, ap, subst, inl, inr}
use Rattle.cip_text.specs.Kinds.{is_blank, is_molecule_end}
use Rattle.cip_text.specs.Bodies.{body_contents}
use Rattle.cip_item.specs.Kinds.{is_heading, is_label_heading}
use Rattle.cip_item.proofs.lemmas.AlikeLines.{IsAlike, AreAlike, same_items}
use Rattle.cip_edit.specs.Edits.{Edit, edited_contents, edited}
use Rattle.cip_edit.specs.EditedRows.{KeepsKind}
use Rattle.cip_edit.specs.EditLaws.{EditsKeepRecords}
use Rattle.cip_edit.proofs.lemmas.EditedLines.{KeepsAll, keeps_all, has_lines}
use Rattle.cip_edit.proofs.lemmas.RowKinds.{row_plain}

alike : (old new : List ℕ) → KeepsKind old new → IsAlike old new
alike old new (inl same) = record {
  blank = ap is_blank same;
  heading = ap is_heading same;
  label_heading = ap is_label_heading same;
  molecule_end = ap is_molecule_end same;
}
alike old new (inr row) =
    let o = row_plain old row.was in
    let n = row_plain new row.becomes in
    record {
      blank = n.blank ∙ sym o.blank;
      heading = n.heading ∙ sym o.heading;
      label_heading = n.label_heading ∙ sym o.label_heading;
      molecule_end = n.molecule_end ∙ sym o.molecule_end;
    }

all_alike : (edit : Edit) (number : ℕ) (contents : List (List ℕ)) → KeepsAll edit number contents
    → AreAlike contents (edited_contents edit number contents)
all_alike edit number [] all = tt
all_alike edit number (content ∷ contents) all =
    (alike content (edit number content) all.0, all_alike edit (number + 1) contents all.1)

pub edits_keep_records : EditsKeepRecords
edits_keep_records edit bytes each =
    let all = keeps_all edit (body_contents bytes) each in
    let lines = has_lines edit bytes all in
    record {
      contents = lines.contents;
      closing = lines.closing;
      items = same_items bytes (edited edit bytes)
          (subst (AreAlike (body_contents bytes)) (sym lines.contents) (all_alike edit 0 (body_contents bytes) all));
    }
