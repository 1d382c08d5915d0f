-- Runs over the parts of a stream add up to the run over the whole.
use Rattle.std.proofs.Common.{◌≡◌, ℕ, List, [], ◌∷◌, ◌++◌, Bool, true, false, Some, None, ◌||◌, refl, sym, ap, ◌∙◌, subst, max}
use Rattle.std.specs.Prelude.{Contains}
use Rattle.std.specs.Io.KnownBytes.{Appends}
use Rattle.cip_batch.specs.declared.limits.Limits.{Limits}
use Rattle.cip_batch.specs.Dividing.{Divides}
use Rattle.cip_batch.specs.Due.{are_flagged, due}
use Rattle.cip_batch.specs.declared.status.StreamStatus.{StreamStatus}
use Rattle.cip_batch.specs.Limits.{limit_place, answered}
use Rattle.cip_batch.specs.ExpectedOutput.{ExpectedOutput}
use Rattle.cip_batch.proofs.lemmas.Dividing.{streams_divide}
use Rattle.cip_commands.specs.ExitStatuses.{DONE, FLAGGED, NOT_CHANGED}
use Rattle.cip_commands.specs.declared.exit_reason.ChangeNote.{ChangeNote}
use Rattle.cip_laws.specs.runs.Dividing.{PartsAddUp}
use Rattle.cip_commands.specs.Statuses.{Flags, MeansOfReading, Streams}
use Rattle.cip_commands.specs.Telling.{annotating}
use Rattle.cip_laws.proofs.lemmas.done.Alike.{all_added, not_missed, reading, status_by}
use Rattle.cip_commands.proofs.lemmas.Meanings.{by_end}

greater : (one other : Bool) → status_by (one || other) ≡ max (status_by one) (status_by other)
greater true true = refl
greater true false = refl
greater false true = refl
greater false false = refl

-- a run that was done passed no limit
pub unlimited : (expected : ExpectedOutput ChangeNote) (limits : Limits) (bytes : List ℕ) (status : ℕ) (old new : Streams)
    → MeansOfReading expected limits status old new → old.source.bytes ≡ Some bytes
    → Contains (DONE ∷ FLAGGED ∷ NOT_CHANGED ∷ []) status → limit_place limits bytes ≡ None
unlimited expected limits bytes status old new meant over end =
    by_end (λ s. status ≡ s → limit_place limits bytes ≡ None) status
    (λ is. (all_added expected limits (Flags false) bytes old new over (meant.done is)).holds.unlimited)
    (λ is. (all_added expected limits (Flags true) bytes old new over (meant.flagged is)).holds.unlimited)
    (λ is. absurd (not_missed status expected limits old new meant is)) end refl

pub parts_add_up : PartsAddUp
parts_add_up labelling limits front behind whole one other old new front_old front_new behind_old behind_new
    closed done front_done behind_done =
    let expected : ExpectedOutput ChangeNote = annotating labelling.rules labelling.nodes in
    let parts : Divides expected limits front behind = streams_divide expected limits front behind
    (record { texts = λ a b bytes. refl; verdicts = λ a b bytes. refl }) closed
    (unlimited expected limits (front ++ behind) whole old new done.meant done.over done.done) in
    let all = reading expected limits (front ++ behind) whole old new done.meant done.over done.done in
    let first = reading expected limits front one front_old front_new front_done.meant front_done.over front_done.done in
    let second = reading expected limits behind other behind_old behind_new behind_done.meant behind_done.over
    behind_done.done in
    record {
      front_text = due expected limits front;
      behind_text = due expected limits behind;
      status = all.stated ∙ ap (λ (v : StreamStatus ChangeNote). status_by v.flagged) parts.verdict
          ∙ greater (are_flagged expected (answered limits front)) (are_flagged expected (answered limits behind))
          ∙ ap (λ s. max s (status_by (are_flagged expected (answered limits behind)))) (sym first.stated)
          ∙ ap (max one) (sym second.stated);
      written = subst (Appends old.sink.bytes new.sink.bytes) parts.text all.written;
      front_written = first.written;
      behind_written = second.written;
    }
