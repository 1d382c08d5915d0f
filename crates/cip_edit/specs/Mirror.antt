-- A V2000 record of the mirror image. CTfile Formats, atom and bond blocks; that four decimals are written is own.
use Rattle.std.specs.Prelude.{ℕ, ℤ, neg_ℤ, List, ◌==◌, ◌&&◌, decimal, length, Some, None, Result, Ok, Err, if◌then◌else◌}
use Rattle.std.specs.declared.option.Option.{Option}
use Rattle.cip_text.specs.Columns.{field}
use Rattle.cip_text.specs.Numbers.{decimal4_of}
use Rattle.cip_text.specs.declared.numbers.NumberFault.{NumberFault}
use Rattle.cip_mol.specs.Drawing.{Drawing}
use Rattle.cip_mol.specs.Points.{is_nought}
use Rattle.cip_ctfile.specs.Fields.{number_in}
use Rattle.cip_edit.specs.Columns.{with_columns}
use Rattle.cip_edit.specs.Edits.{Edit, edited}
use Rattle.cip_text.specs.Writing.{coordinate}
use Rattle.cip_edit.specs.Rows.{row_edit}

-- an atom line: a z that isn't 0 is negated

abbrev pub with_height : List ℕ → Result ℤ NumberFault → List ℕ
with_height line (Ok z) = if is_nought z then line else with_columns 21 30 (coordinate (neg_ℤ z)) line
with_height line (Err _) = line

unfoldable pub mirrored_atom_line : List ℕ → List ℕ
mirrored_atom_line line = with_height line (decimal4_of (field 21 30 line))

-- a bond line: a single bond that is marked up is marked down, and the other way round

abbrev pub other_code : ℕ → ℕ → Option ℕ
other_code order code =
    if (order == 1) && (code == 1) then Some 6
    else if (order == 1) && (code == 6) then Some 1
    else None

abbrev pub other_mark : Option ℕ → Option ℕ → Option ℕ
other_mark None code = None
other_mark (Some order) None = None
other_mark (Some order) (Some code) = other_code order code

abbrev pub with_mark : List ℕ → Option ℕ → List ℕ
with_mark line None = line
with_mark line (Some code) = with_columns 10 12 (decimal code) line

unfoldable pub mirrored_bond_line : List ℕ → List ℕ
mirrored_bond_line line = with_mark line (other_mark (number_in 3 (field 7 9 line)) (number_in 6 (field 10 12 line)))

-- the record

abbrev pub mirror_edit : Drawing → Edit
mirror_edit molecule =
    row_edit (length molecule.atoms) (length molecule.bonds) mirrored_atom_line (λ _. mirrored_bond_line)

abbrev pub mirrored_record : Drawing → List ℕ → List ℕ
mirrored_record molecule bytes = edited (mirror_edit molecule) bytes
