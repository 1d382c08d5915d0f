-- The counts line of a molfile. CTfile Formats; that the version is looked at first is own.
use Rattle.std.specs.Prelude.{ℕ, List, Result, Ok}
use Rattle.std.specs.Option.{ok_or}
use Rattle.cip_text.specs.Columns.{field}
use Rattle.cip_mol.specs.declared.labels.refusal.ReadCause.{ReadCause}
use Rattle.cip_mol.specs.declared.labels.refusal.ReadCause.TheVariants.{Version, Counts}
use Rattle.cip_v2000.specs.declared.counts.CountsLine.{CountsLine}
use Rattle.cip_ctfile.specs.Causes.{guard}
use Rattle.cip_ctfile.specs.Fields.{number_in}
use Rattle.cip_ctfile.specs.Reading.{◌>>=◌}
use Rattle.cip_v2000.specs.Version.{is_v2000}

unfoldable pub counts_of : List ℕ → Result CountsLine ReadCause
counts_of line = do
  _ ← guard Version (is_v2000 line)
  atoms ← ok_or (number_in 999 (field 1 3 line)) Counts
  bonds ← ok_or (number_in 999 (field 4 6 line)) Counts
  Ok (record { atoms = atoms; bonds = bonds })
