-- Records that two definitions read, and records that are written mirrored. Own, after IUPAC 2013, P-92.
use Rattle.std.specs.Prelude.{◌≡◌, ℕ, List}
use Rattle.cip_edit.specs.Answers.{mirror_answer, GivesReflected}
use Rattle.cip_edit.specs.declared.mirror_answer.MirrorAnswer.TheVariants.{Written}
use Rattle.cip_rank.specs.declared.rules.Rules.{Rules}
use Rattle.cip_answer.specs.Answers.{answer_by}
use Rattle.cip_laws.specs.Records.{AnswersMirror}
use Rattle.cip_v3000.specs.Grammar.{molecule_of}
use Rattle.cip_v3000.specs.Tables.{table_of, drawn}

-- the table in which groups are sought has the molecule of the grammar, or is refused for its cause at its line
abbrev pub TablesAreDrawn : Type 0
TablesAreDrawn = (lines : List (List ℕ)) → drawn (table_of lines) ≡ molecule_of lines

-- what is written for a record that is to be mirrored is read as the mirror image of what was read, and has no label
-- item
abbrev pub MirroredRecordsAreRead : Type 0
MirroredRecordsAreRead = (bytes : List ℕ) → GivesReflected bytes (mirror_answer bytes)

-- and its answer has the same units in the same order, in the other sense and with the exchanged descriptors
abbrev pub MirroredRecordsMirror : Type 0
MirroredRecordsMirror = (rules : Rules) (nodes : ℕ) (bytes text : List ℕ) → mirror_answer bytes ≡ Written text
    → AnswersMirror (answer_by rules nodes bytes) (answer_by rules nodes text)
