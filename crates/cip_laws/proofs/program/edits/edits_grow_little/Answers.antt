use Rattle.cip_edit.proofs.lemmas.Lengths.{edits_grow_little}
use Rattle.cip_laws.proofs.program.edits.edits_grow_little.Goals as goal

pub returns : goal.returns
returns c = edits_grow_little
