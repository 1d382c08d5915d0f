-- Runs of which no call fails.
use Rattle.std.proofs.Common.{◌≡◌, ℕ, List, [], ◌∷◌, true, false, Option, Some, None, refl, sym, ap, ◌∙◌, arith}
use Rattle.std.specs.Prelude.{Contains, IfSome, IsSome}
use Rattle.std.specs.Option.{is_some}
use Rattle.cip_print.specs.declared.answer.Answer.{Answer}
use Rattle.cip_batch.specs.declared.limits.Limits.{Limits}
use Rattle.cip_batch.specs.Due.{due}
use Rattle.cip_batch.specs.Endings.{Grew, IsLimited}
use Rattle.cip_batch.specs.Limits.{limit_place}
use Rattle.cip_batch.specs.ExpectedOutput.{ExpectedOutput}
use Rattle.cip_words.specs.Settings.{action_of}
use Rattle.cip_words.specs.declared.settings.Action.{Action}
use Rattle.cip_words.specs.declared.settings.Action.TheVariants as does
use Rattle.cip_words.specs.declared.settings.Task.{Task}
use Rattle.cip_words.specs.declared.settings.Task.TheVariants as tasks
use Rattle.cip_commands.specs.ExitStatuses.{DONE, FLAGGED, OUT_OF_MEMORY, NOT_CHANGED}
use Rattle.cip_commands.specs.declared.exit_reason.ChangeNote.{ChangeNote}
use Rattle.cip_laws.specs.runs.Completeness.{Completes, NeverFails, ReadsWell, RunsComplete, ends_of}
use Rattle.cip_commands.specs.Statuses.{MeansBy, MeansOf, MeansOfChanging, MeansOfHelp, MeansOfMaking, MeansOfReading, MeansOfTrying, Stream, Streams}
use Rattle.cip_commands.specs.Telling.{expected_output}
use Rattle.cip_commands.proofs.lemmas.Meanings.{by_changing, by_helping, by_making, by_reading, by_trying}

abbrev Ends : ℕ → Type 0
Ends status = Contains (DONE ∷ FLAGGED ∷ OUT_OF_MEMORY ∷ []) status

-- no limit is passed where none is
within_limits : (expected : ExpectedOutput ChangeNote) (limits : Limits) (left old new : Option (List ℕ)) → IsSome left
    → IfSome left (λ bytes. limit_place limits bytes ≡ None)
    → IfSome left (λ bytes. Grew (IsLimited limits bytes) (due expected limits bytes) old new) → ⊥
within_limits expected limits None old new stated within over = absurd (cc)
within_limits expected limits (Some bytes) old new stated within over =
    let passed : true ≡ false = sym over.holds ∙ ap is_some within in
    absurd (cc)

reading_completes : (expected : ExpectedOutput ChangeNote) (limits : Limits) (status : ℕ) (old new : Streams)
    → MeansOfReading expected limits status old new → NeverFails old.sink new.sink
    → ReadsWell limits old.source new.source → Ends status
reading_completes expected limits status old new meant written read =
    by_reading (λ s. status ≡ s → Ends s) status (λ is. (0, omega arith, refl)) (λ is. (1, omega arith, refl))
    (λ is. absurd (read.reads (meant.read_fault is).cause)) (λ is. absurd (written (meant.write_fault is).cause))
    (λ is. (2, omega arith, refl))
    (λ is. absurd (within_limits expected limits old.source.bytes old.sink.bytes new.sink.bytes read.stated read.within
    (meant.limit is)))
    meant.comes refl

abbrev ChangesEnd : ℕ → Type 0
ChangesEnd status = Contains (DONE ∷ FLAGGED ∷ OUT_OF_MEMORY ∷ NOT_CHANGED ∷ []) status

changing_completes : (task : Task) (expected : ExpectedOutput ChangeNote) (limits : Limits) (status : ℕ) (old new : Streams)
    → MeansOfChanging task expected limits status old new → NeverFails old.sink new.sink
    → ReadsWell limits old.source new.source → ChangesEnd status
changing_completes task expected limits status old new meant written read =
    by_changing (λ s. status ≡ s → ChangesEnd s) status (λ is. (0, omega arith, refl)) (λ is. (1, omega arith, refl))
    (λ is. absurd (read.reads (meant.read_fault is).cause)) (λ is. absurd (written (meant.write_fault is).cause))
    (λ is. (2, omega arith, refl))
    (λ is. absurd (within_limits expected limits old.source.bytes old.sink.bytes new.sink.bytes read.stated read.within
    (meant.limit is)))
    (λ is. (3, omega arith, refl)) meant.comes refl

making_completes : (start records status : ℕ) (old new : Stream) → MeansOfMaking start records status old new
    → NeverFails old new → Contains (DONE ∷ OUT_OF_MEMORY ∷ []) status
making_completes start records status old new meant written =
    by_making (λ s. status ≡ s → Contains (DONE ∷ OUT_OF_MEMORY ∷ []) s) status (λ is. (0, omega arith, refl))
    (λ is. absurd (written (meant.write_fault is).cause)) (λ is. (1, omega arith, refl)) meant.comes refl

trying_completes : (answers : List Answer) (status : ℕ) (old new : Stream) → MeansOfTrying answers status old new
    → NeverFails old new → Ends status
trying_completes answers status old new meant written =
    by_trying (λ s. status ≡ s → Ends s) status (λ is. (0, omega arith, refl)) (λ is. (1, omega arith, refl))
    (λ is. absurd (written (meant.write_fault is).cause)) (λ is. (2, omega arith, refl)) meant.comes refl

helping_completes : (status : ℕ) (old new : Stream) → MeansOfHelp status old new → NeverFails old new → status ≡ DONE
helping_completes status old new meant written =
    by_helping (λ s. status ≡ s → s ≡ DONE) status (λ is. refl) (λ is. absurd (written (meant.write_fault is).cause))
    meant.comes refl

task_completes : (task : Task) (expected : ExpectedOutput ChangeNote) (limits : Limits) (status : ℕ) (old new : Streams)
    → MeansOf task expected limits status old new → NeverFails old.sink new.sink → ReadsWell limits old.source new.source
    → Contains (ends_of task) status
task_completes (tasks.Set number atom letter) expected limits status old new meant written read =
    changing_completes (tasks.Set number atom letter) expected limits status old new meant written read
task_completes tasks.Mirror expected limits status old new meant written read =
    changing_completes tasks.Mirror expected limits status old new meant written read
task_completes task expected limits status old new meant written read =
    reading_completes expected limits status old new meant written read

completes : (action : Action) (limits : Limits) (status : ℕ) (old new : Streams)
    → MeansBy action limits status old new → NeverFails old.sink new.sink → Completes action limits status old new
completes (does.Read task labelling) limits status old new meant written =
    λ read. task_completes task (expected_output task labelling) limits status old new meant written read
completes (does.Make series) limits status old new meant written =
    making_completes series.start series.records status old.sink new.sink meant written
completes (does.Trial series labelling) limits status old new meant written =
    trying_completes _ status old.sink new.sink meant written
completes does.Help limits status old new meant written = helping_completes status old.sink new.sink meant written

pub complete : RunsComplete
complete settings = completes (action_of settings)
