-- What is written for a record that is refused, or whose groups are, in memory. Own.
use Rattle.std.specs.Prelude.{◌≡◌, true}
use Rattle.cip_mol.specs.declared.labels.refusal.ReadRefusal.{ReadRefusal}
use Rattle.cip_mol.specs.declared.labels.refusal.ReadRefusal.TheVariants as refusals
use Rattle.cip_stereogroups.specs.declared.faults.GroupRefusal.{GroupRefusal}
use Rattle.cip_stereogroups.specs.declared.faults.GroupRefusal.TheVariants as group_refusals
use Rattle.cip_stereogroups.specs.declared.group_text.GroupText.{GroupText}
use Rattle.cip_stereogroups.specs.Texts.{fault_line, refused}

-- want of memory says nothing
abbrev pub TellsRefusal : ReadRefusal → GroupText → Type 0
TellsRefusal (refusals.Fault fault) output = output ≡ refused fault
TellsRefusal refusals.Memory output = ⊥

abbrev pub TellsFault : GroupRefusal → GroupText → Type 0
TellsFault (group_refusals.Fault fault) output = output ≡ record { text = fault_line fault; flagged = true }
TellsFault group_refusals.Memory output = ⊥
