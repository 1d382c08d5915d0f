-- How runs end: by what was asked and what the records add to it; the exit status and what is said of it. Own.
use Rattle.std.specs.Prelude.{ℕ, List, [], ◌∷◌, ◌++◌, codes, Bool, true, false, Some, None, Result, Ok, Err}
use Rattle.std.specs.declared.option.Option.{Option}
use Rattle.cip_edit.specs.RefusalNames.{refusal_name}
use Rattle.cip_edit.specs.declared.set_answer.SetRefusal.{SetRefusal}
use Rattle.cip_batch.specs.declared.error.StreamError.{StreamError}
use Rattle.cip_batch.specs.declared.error.StreamError.TheVariants as stops
use Rattle.cip_batch.specs.declared.status.StreamStatus.{StreamStatus}
use Rattle.cip_text.specs.Lines.{line_feed}
use Rattle.cip_words.specs.declared.settings.Task.{Task}
use Rattle.cip_words.specs.declared.settings.Task.TheVariants.{Set, Mirror}
use Rattle.cip_commands.specs.declared.exit_reason.ExitReason.{ExitReason}
use Rattle.cip_commands.specs.declared.exit_reason.ExitReason.TheVariants.{Done, Flagged, NotChanged, WordsRefused, ReadFault, WriteFault, OutOfMemory, Limit}
use Rattle.cip_commands.specs.declared.exit_reason.ChangeFailure.{ChangeFailure}
use Rattle.cip_commands.specs.declared.exit_reason.ChangeFailure.TheVariants.{NoRecord, NotSet, NotMirrored}
use Rattle.cip_commands.specs.declared.exit_reason.ChangeNote.{ChangeNote}
use Rattle.cip_commands.specs.declared.exit_reason.ChangeNote.TheVariants.{Changed, Missing}
use Rattle.cip_commands.specs.ExitStatuses.{DONE, FLAGGED, WORDS_REFUSED, READ_FAULT, WRITE_FAULT, OUT_OF_MEMORY, LIMIT, NOT_CHANGED}

-- what wasn't changed, by a note on a record
abbrev pub missed_by : ChangeNote → Option ChangeFailure
missed_by Changed = None
missed_by (Missing missed) = Some missed

-- What was to be changed and wasn't, by the first note on a record: where no record was to be set there is none of that
-- number.
abbrev pub missed : Task → Option ChangeNote → Option ChangeFailure
missed (Set number atom letter) None = Some NoRecord
missed (Set number atom letter) (Some note) = missed_by note
missed Mirror None = None
missed Mirror (Some note) = missed_by note
missed task _ = None

abbrev pub ending_by : Option ChangeFailure → Bool → ExitReason
ending_by (Some missed) flagged = NotChanged missed
ending_by None true = Flagged
ending_by None false = Done

-- where all records were answered, with this verdict
abbrev pub ending_of : Task → StreamStatus ChangeNote → ExitReason
ending_of task verdict = ending_by (missed task verdict.note) verdict.flagged

-- where answering the records of a stream ended so
abbrev pub ending_after : Task → Result (StreamStatus ChangeNote) StreamError → ExitReason
ending_after task (Ok verdict) = ending_of task verdict
ending_after task (Err stops.ReadFault) = ReadFault
ending_after task (Err stops.WriteFault) = WriteFault
ending_after task (Err stops.Memory) = OutOfMemory
ending_after task (Err stops.Limit) = Limit

-- the exit status
abbrev pub status_of : ExitReason → ℕ
status_of Done = DONE
status_of Flagged = FLAGGED
status_of (NotChanged missed) = NOT_CHANGED
status_of WordsRefused = WORDS_REFUSED
status_of ReadFault = READ_FAULT
status_of WriteFault = WRITE_FAULT
status_of OutOfMemory = OUT_OF_MEMORY
status_of Limit = LIMIT

-- the diagnostic lines

abbrev pub refusal_line : SetRefusal → List ℕ
refusal_line refusal = codes "cip: not set " ++ (refusal_name refusal ++ line_feed ∷ [])

abbrev pub missed_line : ChangeFailure → List ℕ
missed_line NoRecord = codes "cip: not set NoRecord" ++ line_feed ∷ []
missed_line (NotSet refusal) = refusal_line refusal
missed_line NotMirrored = codes "cip: not mirrored" ++ line_feed ∷ []

-- empty where there is none
abbrev pub line_of : ExitReason → List ℕ
line_of Done = []
line_of Flagged = []
line_of (NotChanged missed) = missed_line missed
line_of WordsRefused = codes "cip: words refused" ++ line_feed ∷ []
line_of ReadFault = codes "cip: read fault" ++ line_feed ∷ []
line_of WriteFault = codes "cip: write fault" ++ line_feed ∷ []
line_of OutOfMemory = codes "cip: out of memory" ++ line_feed ∷ []
line_of Limit = codes "cip: limit" ++ line_feed ∷ []
