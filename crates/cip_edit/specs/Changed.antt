-- A V2000 record in which bonds have other ends and marks. CTfile Formats, bond block.
use Rattle.std.specs.Prelude.{◌≡◌, ℕ, List, All, Bool, false, Ok, ◌+◌, ◌==◌, ◌&&◌, decimal, length, Some, None, slice_get, if◌then◌else◌}
use Rattle.std.specs.declared.option.Option.{Option}
use Rattle.cip_text.specs.Bodies.{body_contents}
use Rattle.cip_mol.specs.Drawing.{Drawing}
use Rattle.cip_mol.specs.Ranges.{IsBond}
use Rattle.cip_mol.specs.declared.graph.molecule.Bond.{Bond}
use Rattle.cip_mol.specs.declared.graph.molecule.Mark.{Mark}
use Rattle.cip_mol.specs.declared.graph.molecule.Mark.TheVariants.{Plain, Up, Down, Either}
use Rattle.cip_item.specs.Parts.{without_label_items, has_label_item}
use Rattle.cip_v2000.specs.Version.{is_v3000}
use Rattle.cip_edit.specs.Columns.{with_columns}
use Rattle.cip_edit.specs.Edits.{Edit, edited}
use Rattle.cip_edit.specs.Answers.{molecule_in}
use Rattle.cip_mol.specs.Joins.{JoinAlike}
use Rattle.cip_edit.specs.Rows.{row_edit}

-- the stereo field of a bond
abbrev pub stereo_of : ℕ → Mark → ℕ
stereo_of order Plain = 0
stereo_of order Up = 1
stereo_of order Down = 6
stereo_of order Either = if order == 2 then 3 else 4

-- a bond line with its ends and its stereo field written anew
unfoldable pub with_bond : Bond → List ℕ → List ℕ
with_bond bond line =
    with_columns 10 12 (decimal (stereo_of bond.order bond.mark))
    (with_columns 4 6 (decimal (bond.b + 1)) (with_columns 1 3 (decimal (bond.a + 1)) line))

-- two bonds of one order have the same ends in the same order, and the same mark
abbrev pub are_drawn_alike : Bond → Bond → Bool
are_drawn_alike old new =
    ((old.a == new.a) && (old.b == new.b)) && (stereo_of 1 old.mark == stereo_of 1 new.mark)

abbrev pub changed_line : Bond → Bond → List ℕ → List ℕ
changed_line old new line = if are_drawn_alike old new then line else with_bond new line

abbrev pub changed_by : Option Bond → Option Bond → List ℕ → List ℕ
changed_by None new line = line
changed_by (Some old) None line = line
changed_by (Some old) (Some new) line = changed_line old new line

-- the bond lines whose ends or mark differ are written anew
abbrev pub change_edit : Drawing → List Bond → Edit
change_edit molecule bonds =
    row_edit (length molecule.atoms) (length molecule.bonds) (λ line. line)
    (λ place line. changed_by (slice_get molecule.bonds place) (slice_get bonds place) line)

abbrev pub changed_record : Drawing → List Bond → List ℕ → List ℕ
changed_record molecule bonds bytes = edited (change_edit molecule bonds) bytes

pub record IsReadChanged (molecule : Drawing) (bonds : List Bond) (text : List ℕ) : Type 0 where
  pub read : molecule_in text ≡ Ok (record { atoms = molecule.atoms; bonds = bonds })
  pub free : has_label_item text ≡ false

-- what is written for a record without its label items is read as the molecule with these bonds
abbrev pub ChangesAreRead : Type 0
ChangesAreRead = (bytes : List ℕ) (molecule : Drawing) (bonds : List Bond) →
    molecule_in bytes ≡ Ok molecule → is_v3000 (body_contents (without_label_items bytes)) ≡ false →
    JoinAlike molecule.bonds bonds → All IsBond bonds →
    IsReadChanged molecule bonds (changed_record molecule bonds (without_label_items bytes))
