use Rattle.cip_edit.proofs.lemmas.ReplacedBonds.{changes_are_read}
use Rattle.cip_edit.proofs.lines.bond_edits.changes_are_read.Goals as goal

pub returns : goal.returns
returns c = changes_are_read
