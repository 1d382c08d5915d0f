-- What an edit of rows leaves as it was. Own.
use Rattle.std.specs.Prelude.{◌≡◌, ◌<◌, ◌≤◌, ℕ, List, ◌+◌, ◌*◌, length, slice_get, slice_index_or, Some}
use Rattle.cip_text.specs.Columns.{field}
use Rattle.cip_text.specs.Bodies.{body_contents, closing}
use Rattle.cip_item.specs.Parts.{has_label_item}
use Rattle.cip_edit.specs.Columns.{with_columns, Fits}
use Rattle.cip_edit.specs.Edits.{Edit, edited, edited_contents}
use Rattle.cip_edit.specs.EditedRows.{KeepsKind}

-- an edit leaves each of these lines as it is, or writes a row for a row
abbrev pub KeepsKinds : Edit → List (List ℕ) → Type 0
KeepsKinds edit contents =
    (number : ℕ) (content : List ℕ) → slice_get contents number ≡ Some content
    → KeepsKind content (edit number content)

-- the record that is written has the edited lines, the closing of the other, and label items only where that has some
pub record IsEdited (edit : Edit) (bytes : List ℕ) : Type 0 where
  pub contents : body_contents (edited edit bytes) ≡ edited_contents edit 0 (body_contents bytes)
  pub closing : closing (edited edit bytes) ≡ closing bytes
  pub items : has_label_item (edited edit bytes) ≡ has_label_item bytes

abbrev pub EditsKeepRecords : Type 0
EditsKeepRecords = (edit : Edit) (bytes : List ℕ) → KeepsKinds edit (body_contents bytes) → IsEdited edit bytes

-- lines from a number on stay, and no other one gets longer by more than 30
pub record GrowsLittle (edit : Edit) (most : ℕ) (contents : List (List ℕ)) : Type 0 where
  pub few : (number : ℕ) (content : List ℕ) → slice_get contents number ≡ Some content
      → length (edit number content) ≤ length content + 30
  pub still : (number : ℕ) (content : List ℕ) → most ≤ number → edit number content ≡ content

abbrev pub EditsGrowLittle : Type 0
EditsGrowLittle = (edit : Edit) (most : ℕ) (bytes : List ℕ) → GrowsLittle edit most (body_contents bytes)
    → length (edited edit bytes) ≤ length bytes + 30 * most

-- a text that is written is right-aligned in its columns, and every other column is as before; those past the end of a
-- line are spaces
pub record IsWritten (first last : ℕ) (text line : List ℕ) : Type 0 where
  pub read : field first last (with_columns first last text line) ≡ text
  pub before : (column : ℕ) → column + 1 < first
      → slice_index_or (with_columns first last text line) column 32 ≡ slice_index_or line column 32
  pub behind : (column : ℕ) → last ≤ column
      → slice_index_or (with_columns first last text line) column 32 ≡ slice_index_or line column 32

abbrev pub TextsAreWritten : Type 0
TextsAreWritten = (first last : ℕ) (text line : List ℕ) → Fits first last text → IsWritten first last text line
