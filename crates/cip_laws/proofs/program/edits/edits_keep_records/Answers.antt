use Rattle.cip_edit.proofs.lemmas.EditedItems.{edits_keep_records}
use Rattle.cip_laws.proofs.program.edits.edits_keep_records.Goals as goal

pub returns : goal.returns
returns c = edits_keep_records
