-- A run over what a run wrote.
use Rattle.std.proofs.Common.{◌≡◌, ℕ, List, [], Option, Some, sym, ap, ◌∙◌, subst}
use Rattle.std.specs.Io.KnownBytes.{Appends}
use Rattle.cip_batch.specs.declared.limits.Limits.{Limits}
use Rattle.cip_batch.specs.Due.{are_flagged, due}
use Rattle.cip_batch.specs.Limits.{limit_place, answered}
use Rattle.cip_batch.specs.ExpectedOutput.{ExpectedOutput}
use Rattle.cip_commands.specs.declared.exit_reason.ChangeNote.{ChangeNote}
use Rattle.cip_laws.specs.runs.Laws.{EndAlike}
use Rattle.cip_laws.specs.runs.Repeating.{StreamStays, RunsRepeat}
use Rattle.cip_commands.specs.Statuses.{Stream}
use Rattle.cip_commands.specs.Telling.{annotating}
use Rattle.cip_laws.proofs.lemmas.done.Alike.{Ended, reading, status_by}
use Rattle.cip_laws.proofs.lemmas.done.Dividing.{unlimited}
use Rattle.cip_laws.proofs.lemmas.done.StreamsAgain.{streams_repeat}

-- a sink that was empty holds what it grew by
grown_to : (old new : Option (List ℕ)) (text more : List ℕ) → old ≡ Some [] → new ≡ Some text → Appends old new more
    → text ≡ more
grown_to old new text more e f h = rw (e, f) at h

again_alike : (expected : ExpectedOutput ChangeNote) (limits : Limits) (bytes text : List ℕ) (one other : ℕ)
    (old new before now : Stream) → text ≡ due expected limits bytes → due expected limits text ≡ text
    → are_flagged expected (answered limits text) ≡ are_flagged expected (answered limits bytes)
    → Ended (status_by (are_flagged expected (answered limits bytes))) (due expected limits bytes) one old new
    → Ended (status_by (are_flagged expected (answered limits text))) (due expected limits text) other before now
    → EndAlike one other old new before now
again_alike expected limits bytes text one other old new before now is stays flags first second = record {
  text = text;
  same = first.stated ∙ ap status_by (sym flags) ∙ sym second.stated;
  first = subst (Appends old.bytes new.bytes) (sym is) first.written;
  second = subst (Appends before.bytes now.bytes) stays second.written;
}

pub runs_repeat : RunsRepeat
runs_repeat labelling others limits bytes text one other old new before now done empty took again says =
    let expected : ExpectedOutput ChangeNote = annotating labelling.rules labelling.nodes in
    let first = reading expected limits bytes one old new done.meant done.over done.done in
    let second = reading expected limits text other before now again.meant again.over again.done in
    let is : text ≡ due expected limits bytes =
    grown_to old.sink.bytes new.sink.bytes text (due expected limits bytes) empty took first.written in
    let within = unlimited expected limits bytes one old new done.meant done.over done.done in
    let text_within = unlimited expected limits text other before now again.meant again.over again.done in
    let stays : StreamStays labelling.rules labelling.nodes limits bytes =
    streams_repeat labelling.rules labelling.nodes limits bytes within
    (sym (ap (limit_place limits) is) ∙ text_within) says in
    again_alike expected limits bytes text one other old.sink new.sink before.sink now.sink is
    (ap (due expected limits) is ∙ stays.text ∙ sym is)
    (ap (λ t. are_flagged expected (answered limits t)) is ∙ stays.flags) first second
