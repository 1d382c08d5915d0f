-- What the status of a run means, by how answering its records ended.
use Rattle.std.proofs.Common.{◌≡◌, ℕ, List, Bool, true, false, Option, Some, None, Result, Ok, Err, refl, subst, sym, ap, ◌∙◌, arith}
use Rattle.std.specs.Prelude.{IfSome, IsSome}
use Rattle.std.specs.Io.KnownBytes.{IsAtEnd}
use Rattle.std.specs.Result.{IsErrOf, IsOk}
use Rattle.cip_io.specs.Faults.{Rose}
use Rattle.cip_batch.specs.Due.{due, verdict_of}
use Rattle.cip_batch.specs.Limits.{answered}
use Rattle.cip_batch.specs.Endings.{AnswersTaken, EndsAs, Grew, IsWhole}
use Rattle.cip_batch.specs.ExpectedOutput.{ExpectedOutput}
use Rattle.cip_batch.specs.declared.limits.Limits.{Limits}
use Rattle.cip_batch.specs.declared.error.StreamError.{StreamError}
use Rattle.cip_batch.specs.declared.error.StreamError.TheVariants as stops
use Rattle.cip_batch.specs.declared.status.StreamStatus.{StreamStatus}
use Rattle.cip_words.specs.declared.settings.Task.{Task}
use Rattle.cip_words.specs.declared.settings.Task.TheVariants as tasks
use Rattle.cip_commands.specs.Endings.{ending_after, ending_by, missed, status_of}
use Rattle.cip_commands.specs.Runs.{IsMissed, IsStatus}
use Rattle.cip_commands.specs.Statuses.{AllAdd, EndsSo, Flags, IsDone, IsReadFault, IsWriteFault, MeansOf, MeansOfChanging, MeansOfReading, Streams}
use Rattle.cip_commands.specs.declared.exit_reason.ExitReason.{ExitReason}
use Rattle.cip_commands.specs.declared.exit_reason.ExitReason.TheVariants as endings
use Rattle.cip_commands.specs.declared.exit_reason.ChangeFailure.{ChangeFailure}
use Rattle.cip_commands.specs.declared.exit_reason.ChangeNote.{ChangeNote}
use Rattle.cip_commands.specs.ExitStatuses.{READ_FAULT, WRITE_FAULT, OUT_OF_MEMORY, LIMIT}

-- each ending has one of the statuses
pub ending_is_status : (ending : ExitReason) → IsStatus (status_of ending)
ending_is_status endings.Done = (0, omega arith, refl)
ending_is_status endings.Flagged = (1, omega arith, refl)
ending_is_status endings.WordsRefused = (2, omega arith, refl)
ending_is_status endings.ReadFault = (3, omega arith, refl)
ending_is_status endings.WriteFault = (4, omega arith, refl)
ending_is_status endings.OutOfMemory = (5, omega arith, refl)
ending_is_status endings.Limit = (6, omega arith, refl)
ending_is_status (endings.NotChanged what) = (7, omega arith, refl)

if_some_also : (P Q : List ℕ → Type 0) (output : Option (List ℕ)) → ((bytes : List ℕ) → P bytes → Q bytes)
    → IfSome output P → IfSome output Q
if_some_also P Q None also holds = tt
if_some_also P Q (Some bytes) also holds = also bytes holds

-- by the task, of commands that report on records and of those that change them
by_task : (task : Task) (expected : ExpectedOutput ChangeNote) (limits : Limits) (status : ℕ) (old new : Streams)
    → MeansOfReading expected limits status old new → MeansOfChanging task expected limits status old new
    → MeansOf task expected limits status old new
by_task (tasks.Set named atom letter) expected limits status old new reading changing = changing
by_task tasks.Mirror expected limits status old new reading changing = changing
by_task task expected limits status old new reading changing = reading

-- all records were answered
module _ (expected : ExpectedOutput ChangeNote) (limits : Limits) (verdict : StreamStatus ChangeNote) (old new : Streams)
    (end : IsAtEnd new.source.bytes)
    (ended : IfSome old.source.bytes (λ bytes. Grew (IsWhole expected limits verdict bytes) (due expected limits bytes)
    old.sink.bytes new.sink.bytes)) where
  done_with : (P : StreamStatus ChangeNote → Type 0) → P verdict → IsDone expected limits P old new
  done_with P holds = record {
    end = end;
    written = if_some_also
        (λ bytes. Grew (IsWhole expected limits verdict bytes) (due expected limits bytes) old.sink.bytes new.sink.bytes)
        (λ bytes. Grew (AllAdd expected limits P bytes) (due expected limits bytes) old.sink.bytes new.sink.bytes)
        old.source.bytes
        (λ bytes grew. record {
          holds = record { unlimited = grew.holds.unlimited; holds = subst P (sym grew.holds.output) holds };
          written = grew.written;
        }) ended;
  }

  told_by : (flagged : Bool) → verdict.flagged ≡ flagged
      → MeansOfReading expected limits (status_of (ending_by None flagged)) old new
  told_by false is = record {
    comes = (0, omega arith, refl);
    done = λ e. done_with (Flags false) is;
    flagged = λ e. absurd (omega (arith, e));
    read_fault = λ e. absurd (omega (arith, e));
    write_fault = λ e. absurd (omega (arith, e));
    out_of_memory = λ e. absurd (omega (arith, e));
    limit = λ e. absurd (omega (arith, e));
  }
  told_by true is = record {
    comes = (1, omega arith, refl);
    done = λ e. absurd (omega (arith, e));
    flagged = λ e. done_with (Flags true) is;
    read_fault = λ e. absurd (omega (arith, e));
    write_fault = λ e. absurd (omega (arith, e));
    out_of_memory = λ e. absurd (omega (arith, e));
    limit = λ e. absurd (omega (arith, e));
  }

  changed_by : (task : Task) (found : Option ChangeFailure) (flagged : Bool) → missed task verdict.note ≡ found
      → verdict.flagged ≡ flagged
      → MeansOfChanging task expected limits (status_of (ending_by found flagged)) old new
  changed_by task (Some what) flagged found is = record {
    comes = (6, omega arith, refl);
    done = λ e. absurd (omega (arith, e));
    flagged = λ e. absurd (omega (arith, e));
    not_changed = λ e. done_with (λ (v : StreamStatus ChangeNote). IsSome (missed task v.note)) (rw found refl);
    read_fault = λ e. absurd (omega (arith, e));
    write_fault = λ e. absurd (omega (arith, e));
    out_of_memory = λ e. absurd (omega (arith, e));
    limit = λ e. absurd (omega (arith, e));
  }
  changed_by task None false found is = record {
    comes = (0, omega arith, refl);
    done = λ e. done_with (EndsSo task endings.Done) (rw (found, is) refl);
    flagged = λ e. absurd (omega (arith, e));
    not_changed = λ e. absurd (omega (arith, e));
    read_fault = λ e. absurd (omega (arith, e));
    write_fault = λ e. absurd (omega (arith, e));
    out_of_memory = λ e. absurd (omega (arith, e));
    limit = λ e. absurd (omega (arith, e));
  }
  changed_by task None true found is = record {
    comes = (1, omega arith, refl);
    done = λ e. absurd (omega (arith, e));
    flagged = λ e. done_with (EndsSo task endings.Flagged) (rw (found, is) refl);
    not_changed = λ e. absurd (omega (arith, e));
    read_fault = λ e. absurd (omega (arith, e));
    write_fault = λ e. absurd (omega (arith, e));
    out_of_memory = λ e. absurd (omega (arith, e));
    limit = λ e. absurd (omega (arith, e));
  }

  all_answered : (task : Task) → MeansOf task expected limits (status_of (ending_after task (Ok verdict))) old new
  all_answered (tasks.Set named atom letter) =
      changed_by (tasks.Set named atom letter) (missed (tasks.Set named atom letter) verdict.note) verdict.flagged refl
      refl
  all_answered tasks.Mirror = changed_by tasks.Mirror (missed tasks.Mirror verdict.note) verdict.flagged refl refl
  all_answered task = told_by verdict.flagged refl

  -- what was missed is what is missed among the records
  missed_so : (task : Task) (found : Option ChangeFailure) (flagged : Bool) → missed task verdict.note ≡ found
      → IsMissed task expected limits old.source.bytes (ending_by found flagged)
  missed_so task None false found = tt
  missed_so task None true found = tt
  missed_so task (Some what) flagged found =
      if_some_also
      (λ bytes. Grew (IsWhole expected limits verdict bytes) (due expected limits bytes) old.sink.bytes new.sink.bytes)
      (λ bytes. missed task (verdict_of expected (answered limits bytes)).note ≡ Some what) old.source.bytes
      (λ bytes grew. ap (λ (v : StreamStatus ChangeNote). missed task v.note) grew.holds.output ∙ found) ended

-- what is known where answering ended with this result
pub record AnsweringEnded (expected : ExpectedOutput ChangeNote) (limits : Limits) (result : Result (StreamStatus ChangeNote) StreamError)
    (old new : Streams) : Type 0 where
  pub ended : IfSome old.source.bytes (EndsAs expected limits result old.sink.bytes new.sink.bytes)
  pub whole : IsOk result → IsAtEnd new.source.bytes
  pub read_fault : IsErrOf result stops.ReadFault
      → AnswersTaken expected limits old.source.bytes new.source.bytes old.sink.bytes new.sink.bytes
  pub source_fault : IsErrOf result stops.ReadFault → Rose old.source.faults new.source.faults
  pub sink_fault : IsErrOf result stops.WriteFault → Rose old.sink.faults new.sink.faults

stopped : (task : Task) (expected : ExpectedOutput ChangeNote) (limits : Limits) (stop : StreamError) (old new : Streams)
    → AnsweringEnded expected limits (Err stop) old new
    → MeansOf task expected limits (status_of (ending_after task (Err stop))) old new
stopped task expected limits stops.ReadFault old new known =
    let fault : IsReadFault expected limits old new =
    record { cause = known.source_fault refl; written = known.read_fault refl } in
    by_task task expected limits READ_FAULT old new
    (record {
      comes = (2, omega arith, refl);
      done = λ e. absurd (omega (arith, e));
      flagged = λ e. absurd (omega (arith, e));
      read_fault = λ e. fault;
      write_fault = λ e. absurd (omega (arith, e));
      out_of_memory = λ e. absurd (omega (arith, e));
      limit = λ e. absurd (omega (arith, e));
    })
    (record {
      comes = (2, omega arith, refl);
      done = λ e. absurd (omega (arith, e));
      flagged = λ e. absurd (omega (arith, e));
      not_changed = λ e. absurd (omega (arith, e));
      read_fault = λ e. fault;
      write_fault = λ e. absurd (omega (arith, e));
      out_of_memory = λ e. absurd (omega (arith, e));
      limit = λ e. absurd (omega (arith, e));
    })
stopped task expected limits stops.WriteFault old new known =
    let fault : IsWriteFault expected limits old new =
    record { cause = known.sink_fault refl; written = known.ended } in
    by_task task expected limits WRITE_FAULT old new
    (record {
      comes = (3, omega arith, refl);
      done = λ e. absurd (omega (arith, e));
      flagged = λ e. absurd (omega (arith, e));
      read_fault = λ e. absurd (omega (arith, e));
      write_fault = λ e. fault;
      out_of_memory = λ e. absurd (omega (arith, e));
      limit = λ e. absurd (omega (arith, e));
    })
    (record {
      comes = (3, omega arith, refl);
      done = λ e. absurd (omega (arith, e));
      flagged = λ e. absurd (omega (arith, e));
      not_changed = λ e. absurd (omega (arith, e));
      read_fault = λ e. absurd (omega (arith, e));
      write_fault = λ e. fault;
      out_of_memory = λ e. absurd (omega (arith, e));
      limit = λ e. absurd (omega (arith, e));
    })
stopped task expected limits stops.Memory old new known =
    by_task task expected limits OUT_OF_MEMORY old new
    (record {
      comes = (4, omega arith, refl);
      done = λ e. absurd (omega (arith, e));
      flagged = λ e. absurd (omega (arith, e));
      read_fault = λ e. absurd (omega (arith, e));
      write_fault = λ e. absurd (omega (arith, e));
      out_of_memory = λ e. known.ended;
      limit = λ e. absurd (omega (arith, e));
    })
    (record {
      comes = (4, omega arith, refl);
      done = λ e. absurd (omega (arith, e));
      flagged = λ e. absurd (omega (arith, e));
      not_changed = λ e. absurd (omega (arith, e));
      read_fault = λ e. absurd (omega (arith, e));
      write_fault = λ e. absurd (omega (arith, e));
      out_of_memory = λ e. known.ended;
      limit = λ e. absurd (omega (arith, e));
    })
stopped task expected limits stops.Limit old new known =
    by_task task expected limits LIMIT old new
    (record {
      comes = (5, omega arith, refl);
      done = λ e. absurd (omega (arith, e));
      flagged = λ e. absurd (omega (arith, e));
      read_fault = λ e. absurd (omega (arith, e));
      write_fault = λ e. absurd (omega (arith, e));
      out_of_memory = λ e. absurd (omega (arith, e));
      limit = λ e. known.ended;
    })
    (record {
      comes = (5, omega arith, refl);
      done = λ e. absurd (omega (arith, e));
      flagged = λ e. absurd (omega (arith, e));
      not_changed = λ e. absurd (omega (arith, e));
      read_fault = λ e. absurd (omega (arith, e));
      write_fault = λ e. absurd (omega (arith, e));
      out_of_memory = λ e. absurd (omega (arith, e));
      limit = λ e. known.ended;
    })

pub meant : (task : Task) (expected : ExpectedOutput ChangeNote) (limits : Limits) (result : Result (StreamStatus ChangeNote) StreamError)
    (old new : Streams) → AnsweringEnded expected limits result old new
    → MeansOf task expected limits (status_of (ending_after task result)) old new
meant task expected limits (Ok verdict) old new known =
    all_answered expected limits verdict old new (known.whole refl) known.ended task
meant task expected limits (Err stop) old new known = stopped task expected limits stop old new known

pub told_missed : (task : Task) (expected : ExpectedOutput ChangeNote) (limits : Limits) (result : Result (StreamStatus ChangeNote) StreamError)
    (old new : Streams) → AnsweringEnded expected limits result old new
    → IsMissed task expected limits old.source.bytes (ending_after task result)
told_missed task expected limits (Ok verdict) old new known =
    missed_so expected limits verdict old new (known.whole refl) known.ended task (missed task verdict.note)
    verdict.flagged refl
told_missed task expected limits (Err stops.ReadFault) old new known = tt
told_missed task expected limits (Err stops.WriteFault) old new known = tt
told_missed task expected limits (Err stops.Memory) old new known = tt
told_missed task expected limits (Err stops.Limit) old new known = tt
