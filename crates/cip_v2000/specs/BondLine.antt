-- A bond line of a molfile. CTfile Formats; which further bonds are refused is own.
use Rattle.std.specs.Prelude.{ℕ, List, ◌==◌, ◌&&◌, Some, None, Result, if◌then◌else◌}
use Rattle.std.specs.declared.option.Option.{Option}
use Rattle.std.specs.Option.{ok_or}
use Rattle.cip_text.specs.Columns.{field}
use Rattle.cip_mol.specs.Bonds.{cause_of}
use Rattle.cip_mol.specs.declared.graph.molecule.Bond.{Bond}
use Rattle.cip_mol.specs.declared.graph.molecule.Mark.{Mark}
use Rattle.cip_mol.specs.declared.graph.molecule.Mark.TheVariants.{Plain, Up, Down, Either}
use Rattle.cip_mol.specs.declared.labels.refusal.ReadCause.{ReadCause}
use Rattle.cip_mol.specs.declared.labels.refusal.ReadCause.TheVariants.{BondEnd, BondType, BondMark}
use Rattle.cip_ctfile.specs.Causes.{order_of, unless_refused}
use Rattle.cip_ctfile.specs.Fields.{number_in, one_based_index}
use Rattle.cip_ctfile.specs.Reading.{◌>>=◌}

-- the stereo field of a single, a double or a triple bond
abbrev pub mark_of : ℕ → Option ℕ → Option Mark
mark_of order None = None
mark_of order (Some code) =
    if code == 0 then Some Plain
    else if (order == 1) && (code == 1) then Some Up
    else if (order == 1) && (code == 4) then Some Either
    else if (order == 1) && (code == 6) then Some Down
    else if (order == 2) && (code == 3) then Some Either
    else None

-- the bond of a line, among n atoms and after these bonds
unfoldable pub bond_of : ℕ → List Bond → List ℕ → Result Bond ReadCause
bond_of atoms before line = do
  a ← ok_or (one_based_index (number_in atoms (field 1 3 line))) BondEnd
  b ← ok_or (one_based_index (number_in atoms (field 4 6 line))) BondEnd
  order ← ok_or (order_of (number_in 3 (field 7 9 line))) BondType
  mark ← ok_or (mark_of order (number_in 6 (field 10 12 line))) BondMark
  let bond : Bond = record { a = a; b = b; order = order; mark = mark } in
      unless_refused bond (cause_of atoms before bond)
