-- Runs that are done have the same status and add the same text, whatever their workers.
use Rattle.std.proofs.Common.{◌≡◌, ℕ, List, [], ◌∷◌, Bool, true, false, Option, Some, None, refl, sym, ap, ◌∙◌, subst, arith}
use Rattle.std.specs.Prelude.{Contains, IfSome, IsSome, if◌then◌else◌}
use Rattle.std.specs.Io.KnownBytes.{Appends}
use Rattle.cip_print.specs.declared.answer.Answer.{Answer}
use Rattle.cip_batch.specs.declared.limits.Limits.{Limits}
use Rattle.cip_batch.specs.Due.{are_flagged, due, verdict_of}
use Rattle.cip_batch.specs.Endings.{Grew}
use Rattle.cip_batch.specs.Limits.{answered}
use Rattle.cip_batch.specs.ExpectedOutput.{ExpectedOutput}
use Rattle.cip_batch.specs.declared.status.StreamStatus.{StreamStatus}
use Rattle.cip_words.specs.Help.{help}
use Rattle.cip_words.specs.declared.settings.Action.TheVariants as does
use Rattle.cip_words.specs.declared.settings.Task.{Task}
use Rattle.cip_words.specs.declared.settings.Task.TheVariants as tasks
use Rattle.cip_commands.specs.declared.exit_reason.ExitReason.{ExitReason}
use Rattle.cip_commands.specs.declared.exit_reason.ExitReason.TheVariants as endings
use Rattle.cip_commands.specs.declared.exit_reason.ChangeFailure.{ChangeFailure}
use Rattle.cip_commands.specs.declared.exit_reason.ChangeNote.{ChangeNote}
use Rattle.cip_commands.specs.ExitStatuses.{DONE, FLAGGED, NOT_CHANGED}
use Rattle.cip_commands.specs.Endings.{ending_by, ending_of, missed, status_of}
use Rattle.cip_laws.specs.runs.Laws.{EndAlike, WorkersChangeNothing}
use Rattle.cip_commands.specs.Making.{made_text}
use Rattle.cip_commands.specs.Statuses.{AllAdd, EndsSo, Flags, MeansOfChanging, MeansOfHelp, MeansOfMaking, MeansOfReading, MeansOfTrying, IsDone, Stream, Streams}
use Rattle.cip_commands.specs.Trying.{some_flagged, summary}
use Rattle.cip_commands.proofs.lemmas.Meanings.{by_end, by_helping, by_making, by_reading, by_trying}

abbrev pub status_by : Bool → ℕ
status_by flagged = if flagged then FLAGGED else DONE

-- the status is this one, and the sink grew by this text
pub record Ended (due_status : ℕ) (text : List ℕ) (status : ℕ) (old new : Stream) : Type 0 where
  pub stated : status ≡ due_status
  pub written : Appends old.bytes new.bytes text

alike : (due_status : ℕ) (text : List ℕ) (one other : ℕ) (old new before now : Stream)
    → Ended due_status text one old new → Ended due_status text other before now → EndAlike one other old new before now
alike due_status text one other old new before now first second =
    record { text = text; same = first.stated ∙ sym second.stated; first = first.written; second = second.written }

grown : (fact flagged : Bool) (text : List ℕ) (status : ℕ) (old new : Stream) → status ≡ status_by flagged
    → Grew (fact ≡ flagged) text old.bytes new.bytes → Ended (status_by fact) text status old new
grown fact flagged text status old new is grew =
    record { stated = is ∙ ap status_by (sym grew.holds); written = grew.written }

-- by command

-- where a run is done over these bytes, what is due was written, and this holds of what the records add
pub all_added : (expected : ExpectedOutput ChangeNote) (limits : Limits) (P : StreamStatus ChangeNote → Type 0) (bytes : List ℕ)
    (old new : Streams) → old.source.bytes ≡ Some bytes → IsDone expected limits P old new
    → Grew (AllAdd expected limits P bytes) (due expected limits bytes) old.sink.bytes new.sink.bytes
all_added expected limits P bytes old new over done =
    subst (λ left. IfSome left (λ bytes. Grew (AllAdd expected limits P bytes) (due expected limits bytes)
    old.sink.bytes new.sink.bytes)) over done.written

read : (expected : ExpectedOutput ChangeNote) (limits : Limits) (bytes : List ℕ) (flagged : Bool) (status : ℕ) (old new : Streams)
    → old.source.bytes ≡ Some bytes → status ≡ status_by flagged → IsDone expected limits (Flags flagged) old new
    → Ended (status_by (are_flagged expected (answered limits bytes))) (due expected limits bytes) status old.sink new.sink
read expected limits bytes flagged status old new over is done =
    let grew = all_added expected limits (Flags flagged) bytes old new over done in
    record { stated = is ∙ ap status_by (sym grew.holds.holds); written = grew.written }

pub not_missed : (status : ℕ) (expected : ExpectedOutput ChangeNote) (limits : Limits) (old new : Streams)
    → MeansOfReading expected limits status old new → status ≡ NOT_CHANGED → ⊥
not_missed status expected limits old new meant =
    by_reading (λ s. s ≡ NOT_CHANGED → ⊥) status (λ e. omega (arith, e)) (λ e. omega (arith, e)) (λ e. omega (arith, e))
    (λ e. omega (arith, e)) (λ e. omega (arith, e)) (λ e. omega (arith, e)) meant.comes

pub reading : (expected : ExpectedOutput ChangeNote) (limits : Limits) (bytes : List ℕ) (status : ℕ) (old new : Streams)
    → MeansOfReading expected limits status old new → old.source.bytes ≡ Some bytes
    → Contains (DONE ∷ FLAGGED ∷ NOT_CHANGED ∷ []) status
    → Ended (status_by (are_flagged expected (answered limits bytes))) (due expected limits bytes) status old.sink new.sink
reading expected limits bytes status old new meant over end =
    by_end (λ s. status ≡ s
    → Ended (status_by (are_flagged expected (answered limits bytes))) (due expected limits bytes) status old.sink new.sink)
    status (λ is. read expected limits bytes false status old new over is (meant.done is))
    (λ is. read expected limits bytes true status old new over is (meant.flagged is))
    (λ is. absurd (not_missed status expected limits old new meant is)) end refl

-- the status of a run that changes records
abbrev pub changed_status : Task → ExpectedOutput ChangeNote → Limits → List ℕ → ℕ
changed_status task expected limits bytes = status_of (ending_of task (verdict_of expected (answered limits bytes)))

ends : (task : Task) (expected : ExpectedOutput ChangeNote) (limits : Limits) (bytes : List ℕ) (ending : ExitReason) (status : ℕ)
    (old new : Streams) → old.source.bytes ≡ Some bytes → status ≡ status_of ending
    → IsDone expected limits (EndsSo task ending) old new
    → Ended (changed_status task expected limits bytes) (due expected limits bytes) status old.sink new.sink
ends task expected limits bytes ending status old new over is done =
    let grew = all_added expected limits (EndsSo task ending) bytes old new over done in
    record { stated = is ∙ ap status_of (sym grew.holds.holds); written = grew.written }

missed_status : (found : Option ChangeFailure) (flagged : Bool) → IsSome found
    → status_of (ending_by found flagged) ≡ NOT_CHANGED
missed_status None flagged some = absurd (cc)
missed_status (Some what) flagged some = refl

misses : (task : Task) (expected : ExpectedOutput ChangeNote) (limits : Limits) (bytes : List ℕ) (status : ℕ) (old new : Streams)
    → old.source.bytes ≡ Some bytes → status ≡ NOT_CHANGED
    → IsDone expected limits (λ verdict. IsSome (missed task verdict.note)) old new
    → Ended (changed_status task expected limits bytes) (due expected limits bytes) status old.sink new.sink
misses task expected limits bytes status old new over is done =
    let grew = all_added expected limits (λ verdict. IsSome (missed task verdict.note)) bytes old new over done in
    let verdict = verdict_of expected (answered limits bytes) in
    record {
      stated = is ∙ sym (missed_status (missed task verdict.note) verdict.flagged grew.holds.holds);
      written = grew.written;
    }

changes : (task : Task) (expected : ExpectedOutput ChangeNote) (limits : Limits) (bytes : List ℕ) (status : ℕ) (old new : Streams)
    → MeansOfChanging task expected limits status old new → old.source.bytes ≡ Some bytes
    → Contains (DONE ∷ FLAGGED ∷ NOT_CHANGED ∷ []) status
    → Ended (changed_status task expected limits bytes) (due expected limits bytes) status old.sink new.sink
changes task expected limits bytes status old new meant over end =
    by_end (λ s. status ≡ s
    → Ended (changed_status task expected limits bytes) (due expected limits bytes) status old.sink new.sink) status
    (λ is. ends task expected limits bytes endings.Done status old new over is (meant.done is))
    (λ is. ends task expected limits bytes endings.Flagged status old new over is (meant.flagged is))
    (λ is. misses task expected limits bytes status old new over is (meant.not_changed is)) end refl

trying : (answers : List Answer) (status : ℕ) (old new : Stream) → MeansOfTrying answers status old new
    → Contains (DONE ∷ FLAGGED ∷ NOT_CHANGED ∷ []) status → Ended (status_by (some_flagged answers))
    (summary answers) status old new
trying answers status old new meant end =
    by_end (λ s. status ≡ s → Ended (status_by (some_flagged answers)) (summary answers) status old new) status
    (λ is. grown (some_flagged answers) false (summary answers) status old new is (meant.done is))
    (λ is. grown (some_flagged answers) true (summary answers) status old new is (meant.flagged is))
    (λ is. absurd (by_trying (λ s. s ≡ NOT_CHANGED → ⊥) status (λ e. omega (arith, e)) (λ e. omega (arith, e))
    (λ e. omega (arith, e)) (λ e. omega (arith, e)) meant.comes is)) end refl

making : (start records status : ℕ) (old new : Stream) → MeansOfMaking start records status old new
    → Contains (DONE ∷ FLAGGED ∷ NOT_CHANGED ∷ []) status → Ended DONE (made_text start records) status old new
making start records status old new meant end =
    by_end (λ s. status ≡ s → Ended DONE (made_text start records) status old new) status
    (λ is. record { stated = is; written = meant.done is })
    (λ is. absurd (by_making (λ s. s ≡ FLAGGED → ⊥) status (λ e. omega (arith, e)) (λ e. omega (arith, e))
    (λ e. omega (arith, e)) meant.comes is))
    (λ is. absurd (by_making (λ s. s ≡ NOT_CHANGED → ⊥) status (λ e. omega (arith, e)) (λ e. omega (arith, e))
    (λ e. omega (arith, e)) meant.comes is)) end refl

helping : (status : ℕ) (old new : Stream) → MeansOfHelp status old new
    → Contains (DONE ∷ FLAGGED ∷ NOT_CHANGED ∷ []) status → Ended DONE help status old new
helping status old new meant end =
    by_end (λ s. status ≡ s → Ended DONE help status old new) status
    (λ is. record { stated = is; written = meant.done is })
    (λ is. absurd (by_helping (λ s. s ≡ FLAGGED → ⊥) status (λ e. omega (arith, e)) (λ e. omega (arith, e)) meant.comes
    is))
    (λ is. absurd (by_helping (λ s. s ≡ NOT_CHANGED → ⊥) status (λ e. omega (arith, e))
    (λ e. omega (arith, e)) meant.comes
    is)) end refl

pub workers_alike : WorkersChangeNothing
workers_alike (does.Read (tasks.Set number atom letter) labelling) count limits bytes one other old new before now first
    second =
    alike _ _ one other old.sink new.sink before.sink now.sink
    (changes (tasks.Set number atom letter) _ limits bytes one old new first.meant first.over first.done)
    (changes (tasks.Set number atom letter) _ limits bytes other before now second.meant second.over second.done)
workers_alike (does.Read tasks.Mirror labelling) count limits bytes one other old new before now first second =
    alike _ _ one other old.sink new.sink before.sink now.sink
    (changes tasks.Mirror _ limits bytes one old new first.meant first.over first.done)
    (changes tasks.Mirror _ limits bytes other before now second.meant second.over second.done)
workers_alike (does.Read task labelling) count limits bytes one other old new before now first second =
    alike _ _ one other old.sink new.sink before.sink now.sink
    (reading _ limits bytes one old new first.meant first.over first.done)
    (reading _ limits bytes other before now second.meant second.over second.done)
workers_alike (does.Make series) count limits bytes one other old new before now first second =
    alike _ _ one other old.sink new.sink before.sink now.sink
    (making series.start series.records one old.sink new.sink first.meant first.done)
    (making series.start series.records other before.sink now.sink second.meant second.done)
workers_alike (does.Trial series labelling) count limits bytes one other old new before now first second =
    alike _ _ one other old.sink new.sink before.sink now.sink
    (trying _ one old.sink new.sink first.meant first.done)
    (trying _ other before.sink now.sink second.meant second.done)
workers_alike does.Help count limits bytes one other old new before now first second =
    alike _ _ one other old.sink new.sink before.sink now.sink
    (helping one old.sink new.sink first.meant first.done)
    (helping other before.sink now.sink second.meant second.done)
