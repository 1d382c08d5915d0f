-- The molecule of a record, in either version of molfiles. CTfile Formats.
use Rattle.std.specs.Prelude.{ℕ, List, Result, if◌then◌else◌}
use Rattle.cip_mol.specs.Drawing.{Drawing}
use Rattle.cip_mol.specs.declared.labels.refusal.ReadFault.{ReadFault}
use Rattle.cip_v2000.specs.Grammar as v2000
use Rattle.cip_v2000.specs.Version.{is_v3000}
use Rattle.cip_v3000.specs.Grammar as v3000

-- of the contents of a record's lines before its terminator line
abbrev pub read_molecule : List (List ℕ) → Result Drawing ReadFault
read_molecule lines = if is_v3000 lines then v3000.molecule_of lines else v2000.molecule_of lines
