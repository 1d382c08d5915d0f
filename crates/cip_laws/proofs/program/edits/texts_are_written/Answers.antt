use Rattle.cip_laws.proofs.lemmas.edit_columns.ColumnsStay.{texts_are_written}
use Rattle.cip_laws.proofs.program.edits.texts_are_written.Goals as goal

pub returns : goal.returns
returns c = texts_are_written
