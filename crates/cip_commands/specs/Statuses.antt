-- What each exit status of a run means. Own.
use Rattle.std.specs.Prelude.{◌≡◌, ℕ, List, [], ◌∷◌, Bool, true, false, Some, None, IfSome, IsSome, Contains}
use Rattle.std.specs.declared.option.Option.{Option}
use Rattle.std.specs.Io.KnownBytes.{Appends, IsAtEnd}
use Rattle.cip_io.specs.Faults.{Rose}
use Rattle.cip_io.specs.Growth.{AppendsPrefix}
use Rattle.cip_print.specs.declared.answer.Answer.{Answer}
use Rattle.cip_batch.specs.declared.limits.Limits.{Limits}
use Rattle.cip_batch.specs.Due.{due, verdict_of}
use Rattle.cip_batch.specs.Endings.{AnswersTaken, Grew, GrewTo, IsLimited}
use Rattle.cip_batch.specs.Limits.{answered, limit_place}
use Rattle.cip_batch.specs.ExpectedOutput.{ExpectedOutput}
use Rattle.cip_batch.specs.declared.status.StreamStatus.{StreamStatus}
use Rattle.cip_words.specs.Help.{help}
use Rattle.cip_words.specs.Settings.{action_of}
use Rattle.cip_words.specs.declared.settings.Action.{Action}
use Rattle.cip_words.specs.declared.settings.Action.TheVariants as does
use Rattle.cip_words.specs.declared.settings.Settings.{Settings}
use Rattle.cip_words.specs.declared.settings.Task.{Task}
use Rattle.cip_words.specs.declared.settings.Task.TheVariants as tasks
use Rattle.cip_commands.specs.ExitStatuses.{DONE, FLAGGED, WORDS_REFUSED, READ_FAULT, WRITE_FAULT, OUT_OF_MEMORY, LIMIT, NOT_CHANGED}
use Rattle.cip_commands.specs.declared.exit_reason.ExitReason.{ExitReason}
use Rattle.cip_commands.specs.declared.exit_reason.ExitReason.TheVariants as endings
use Rattle.cip_commands.specs.declared.exit_reason.ChangeNote.{ChangeNote}
use Rattle.cip_commands.specs.Endings.{ending_of, missed}
use Rattle.cip_commands.specs.Making.{GrewByMade, made_text}
use Rattle.cip_commands.specs.Telling.{expected_output}
use Rattle.cip_commands.specs.Trying.{answers_to, some_flagged, summary}

-- A source or a sink at one time: the bytes that it has left or took, where it knows them, and how many of its calls
-- failed.
pub record Stream : Type 0 where
  pub bytes : Option (List ℕ)
  pub faults : ℕ

abbrev pub stream : Option (List ℕ) → ℕ → Stream
stream bytes faults = record { bytes = bytes; faults = faults }

-- the source and the sink of a run at one time
pub record Streams : Type 0 where
  pub source : Stream
  pub sink : Stream

abbrev pub streams : Option (List ℕ) → ℕ → Option (List ℕ) → ℕ → Streams
streams left read_faults taken write_faults =
    record { source = stream left read_faults; sink = stream taken write_faults }

-- a write failed, and the sink took a front of this text
pub record BreaksOff (text : List ℕ) (old new : Stream) : Type 0 where
  pub cause : Rose old.faults new.faults
  pub written : AppendsPrefix old.bytes new.bytes text

-- commands that read

-- no limit is passed by these bytes, and this holds of what their records add to the end of a run
pub record AllAdd (expected : ExpectedOutput ChangeNote) (limits : Limits) (P : StreamStatus ChangeNote → Type 0) (bytes : List ℕ) : Type 0 where
  pub unlimited : limit_place limits bytes ≡ None
  pub holds : P (verdict_of expected (answered limits bytes))

-- the whole source was taken, no limit is passed, and the sink grew by the text that is due; this holds of what the
-- records add
pub record IsDone (expected : ExpectedOutput ChangeNote) (limits : Limits) (P : StreamStatus ChangeNote → Type 0)
    (old new : Streams) : Type 0 where
  pub end : IsAtEnd new.source.bytes
  pub written : IfSome old.source.bytes
      (λ bytes. Grew (AllAdd expected limits P bytes) (due expected limits bytes) old.sink.bytes new.sink.bytes)

-- this says whether a record is flagged
abbrev pub Flags : Bool → StreamStatus ChangeNote → Type 0
Flags flagged verdict = verdict.flagged ≡ flagged

-- the source failed, within the limits, and the sink grew by the texts of the records that were closed before
pub record IsReadFault (expected : ExpectedOutput ChangeNote) (limits : Limits) (old new : Streams) : Type 0 where
  pub cause : Rose old.source.faults new.source.faults
  pub written : AnswersTaken expected limits old.source.bytes new.source.bytes old.sink.bytes new.sink.bytes

-- the sink failed, and took a front of the text that is due
pub record IsWriteFault (expected : ExpectedOutput ChangeNote) (limits : Limits) (old new : Streams) : Type 0 where
  pub cause : Rose old.sink.faults new.sink.faults
  pub written : IfSome old.source.bytes
      (λ bytes. AppendsPrefix old.sink.bytes new.sink.bytes (due expected limits bytes))

-- the sink grew by the texts of the first records, however many
abbrev pub IsOutOfMemory : ExpectedOutput ChangeNote → Limits → Streams → Streams → Type 0
IsOutOfMemory expected limits old new =
    IfSome old.source.bytes (λ bytes. GrewTo expected (answered limits bytes) old.sink.bytes new.sink.bytes)

-- a limit is passed, and the sink grew by the texts of the records before it
abbrev pub IsOverLimit : ExpectedOutput ChangeNote → Limits → Streams → Streams → Type 0
IsOverLimit expected limits old new = IfSome old.source.bytes
    (λ bytes. Grew (IsLimited limits bytes) (due expected limits bytes) old.sink.bytes new.sink.bytes)

-- A line for each status, by what the words ask for.

-- `annotate`, `explain`, `groups` and `axes`: what is written for the records of the source
pub record MeansOfReading (expected : ExpectedOutput ChangeNote) (limits : Limits) (status : ℕ) (old new : Streams) : Type 0 where
  pub comes : Contains (DONE ∷ FLAGGED ∷ READ_FAULT ∷ WRITE_FAULT ∷ OUT_OF_MEMORY ∷ LIMIT ∷ []) status
  pub done : status ≡ DONE → IsDone expected limits (Flags false) old new
  pub flagged : status ≡ FLAGGED → IsDone expected limits (Flags true) old new
  pub read_fault : status ≡ READ_FAULT → IsReadFault expected limits old new
  pub write_fault : status ≡ WRITE_FAULT → IsWriteFault expected limits old new
  pub out_of_memory : status ≡ OUT_OF_MEMORY → IsOutOfMemory expected limits old new
  pub limit : status ≡ LIMIT → IsOverLimit expected limits old new

-- this is how a run ends that changes records
abbrev pub EndsSo : Task → ExitReason → StreamStatus ChangeNote → Type 0
EndsSo task ending verdict = ending_of task verdict ≡ ending

-- `set` and `mirror`: the records of the source, changed; or not all that was to be changed was
pub record MeansOfChanging (task : Task) (expected : ExpectedOutput ChangeNote) (limits : Limits) (status : ℕ) (old new : Streams)
    : Type 0 where
  pub comes : Contains
      (DONE ∷ FLAGGED ∷ READ_FAULT ∷ WRITE_FAULT ∷ OUT_OF_MEMORY ∷ LIMIT ∷ NOT_CHANGED ∷ []) status
  pub done : status ≡ DONE → IsDone expected limits (EndsSo task endings.Done) old new
  pub flagged : status ≡ FLAGGED → IsDone expected limits (EndsSo task endings.Flagged) old new
  pub not_changed : status ≡ NOT_CHANGED
      → IsDone expected limits (λ verdict. IsSome (missed task verdict.note)) old new
  pub read_fault : status ≡ READ_FAULT → IsReadFault expected limits old new
  pub write_fault : status ≡ WRITE_FAULT → IsWriteFault expected limits old new
  pub out_of_memory : status ≡ OUT_OF_MEMORY → IsOutOfMemory expected limits old new
  pub limit : status ≡ LIMIT → IsOverLimit expected limits old new

-- by the task
abbrev pub MeansOf : Task → ExpectedOutput ChangeNote → Limits → ℕ → Streams → Streams → Type 0
MeansOf (tasks.Set named atom letter) expected limits status old new =
    MeansOfChanging (tasks.Set named atom letter) expected limits status old new
MeansOf tasks.Mirror expected limits status old new = MeansOfChanging tasks.Mirror expected limits status old new
MeansOf task expected limits status old new = MeansOfReading expected limits status old new

-- `make`: the first n records of a series
pub record MeansOfMaking (start records status : ℕ) (old new : Stream) : Type 0 where
  pub comes : Contains (DONE ∷ WRITE_FAULT ∷ OUT_OF_MEMORY ∷ []) status
  pub done : status ≡ DONE → Appends old.bytes new.bytes (made_text start records)
  pub write_fault : status ≡ WRITE_FAULT → BreaksOff (made_text start records) old new
  pub out_of_memory : status ≡ OUT_OF_MEMORY → GrewByMade start records old.bytes new.bytes

-- `trial`: the summary of these answers
pub record MeansOfTrying (answers : List Answer) (status : ℕ) (old new : Stream) : Type 0 where
  pub comes : Contains (DONE ∷ FLAGGED ∷ WRITE_FAULT ∷ OUT_OF_MEMORY ∷ []) status
  pub done : status ≡ DONE → Grew (some_flagged answers ≡ false) (summary answers) old.bytes new.bytes
  pub flagged : status ≡ FLAGGED → Grew (some_flagged answers ≡ true) (summary answers) old.bytes new.bytes
  pub write_fault : status ≡ WRITE_FAULT → BreaksOff (summary answers) old new
  pub out_of_memory : status ≡ OUT_OF_MEMORY → Appends old.bytes new.bytes []

-- `help`: its text
pub record MeansOfHelp (status : ℕ) (old new : Stream) : Type 0 where
  pub comes : Contains (DONE ∷ WRITE_FAULT ∷ []) status
  pub done : status ≡ DONE → Appends old.bytes new.bytes help
  pub write_fault : status ≡ WRITE_FAULT → BreaksOff help old new

-- by what the command does
abbrev pub MeansBy : Action → Limits → ℕ → Streams → Streams → Type 0
MeansBy (does.Read task labelling) limits status old new =
    MeansOf task (expected_output task labelling) limits status old new
MeansBy (does.Make series) limits status old new = MeansOfMaking series.start series.records status old.sink new.sink
MeansBy (does.Trial series labelling) limits status old new =
    MeansOfTrying (answers_to series labelling series.records) status old.sink new.sink
MeansBy does.Help limits status old new = MeansOfHelp status old.sink new.sink

-- What each exit status means: words are refused exactly where they ask for nothing.
abbrev pub Means : Option Settings → Limits → ℕ → Streams → Streams → Type 0
Means None limits status old new = status ≡ WORDS_REFUSED
Means (Some settings) limits status old new = MeansBy (action_of settings) limits status old new

-- whether the source is read

abbrev pub reads_by : Action → Bool
reads_by (does.Read task labelling) = true
reads_by (does.Make series) = false
reads_by (does.Trial series labelling) = false
reads_by does.Help = false

abbrev pub reads : Option Settings → Bool
reads None = false
reads (Some settings) = reads_by (action_of settings)
