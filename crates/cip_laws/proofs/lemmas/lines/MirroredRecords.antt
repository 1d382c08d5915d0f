-- A record that is written mirrored has the mirror image's answer.
use Rattle.std.proofs.Common.{subst}
use Rattle.cip_edit.specs.Answers.{GivesReflected, IsMirrored}
use Rattle.cip_edit.proofs.lemmas.MirrorReads.{mirror_reads}
use Rattle.cip_laws.specs.Readings.{MirroredRecordsMirror}
use Rattle.cip_laws.proofs.lemmas.lines.Going.{records_mirror}

pub mirrored_records_mirror : MirroredRecordsMirror
mirrored_records_mirror rules nodes bytes text is =
    let read : IsMirrored bytes text = subst (GivesReflected bytes) is (mirror_reads bytes) in
    records_mirror rules nodes bytes text read.molecule read.before read.behind
