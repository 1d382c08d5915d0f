-- How causes and kinds of groups are written. Own.
use Rattle.std.specs.Prelude.{ℕ, List, ◌++◌, codes, decimal}
use Rattle.cip_stereogroups.specs.declared.faults.GroupCause.{GroupCause}
use Rattle.cip_stereogroups.specs.declared.faults.GroupCause.TheVariants.{Frame, Name, Word, Atom, Repeated}
use Rattle.cip_stereogroups.specs.declared.kinds.GroupKind.{GroupKind}
use Rattle.cip_stereogroups.specs.declared.kinds.GroupKind.TheVariants.{Absolute, Racemic, Relative}

abbrev pub cause_text : GroupCause → List ℕ
cause_text Frame = codes "Frame"
cause_text Name = codes "Name"
cause_text Word = codes "Word"
cause_text Atom = codes "Atom"
cause_text Repeated = codes "Repeated"

abbrev pub kind_text : GroupKind → List ℕ
kind_text Absolute = codes "abs"
kind_text (Racemic number) = codes "rac" ++ decimal number
kind_text (Relative number) = codes "rel" ++ decimal number
