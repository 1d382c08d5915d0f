-- A run that nothing disturbs is done, but for want of memory. Own.
use Rattle.std.specs.Prelude.{◌≡◌, ℕ, List, [], ◌∷◌, Some, None, IfSome, IsSome, Contains}
use Rattle.cip_io.specs.Faults.{Rose}
use Rattle.cip_batch.specs.declared.limits.Limits.{Limits}
use Rattle.cip_batch.specs.Limits.{limit_place}
use Rattle.cip_words.specs.Settings.{action_of}
use Rattle.cip_words.specs.declared.settings.Action.{Action}
use Rattle.cip_words.specs.declared.settings.Action.TheVariants as does
use Rattle.cip_words.specs.declared.settings.Settings.{Settings}
use Rattle.cip_words.specs.declared.settings.Task.{Task}
use Rattle.cip_words.specs.declared.settings.Task.TheVariants as tasks
use Rattle.cip_commands.specs.ExitStatuses.{DONE, FLAGGED, OUT_OF_MEMORY, NOT_CHANGED}
use Rattle.cip_commands.specs.Statuses.{Means, Stream, Streams}

abbrev pub NeverFails : Stream → Stream → Type 0
NeverFails old new = Rose old.faults new.faults → ⊥

-- no read failed, the source says what it has left, and no limit is passed by it
pub record ReadsWell (limits : Limits) (old new : Stream) : Type 0 where
  pub reads : NeverFails old new
  pub stated : IsSome old.bytes
  pub within : IfSome old.bytes (λ bytes. limit_place limits bytes ≡ None)

-- the statuses of a command that reads, where no call fails
abbrev pub ends_of : Task → List ℕ
ends_of (tasks.Set number atom letter) = DONE ∷ FLAGGED ∷ OUT_OF_MEMORY ∷ NOT_CHANGED ∷ []
ends_of tasks.Mirror = DONE ∷ FLAGGED ∷ OUT_OF_MEMORY ∷ NOT_CHANGED ∷ []
ends_of task = DONE ∷ FLAGGED ∷ OUT_OF_MEMORY ∷ []

-- how a command ends where no call fails
abbrev pub Completes : Action → Limits → ℕ → Streams → Streams → Type 0
Completes (does.Read task labelling) limits status old new =
    ReadsWell limits old.source new.source → Contains (ends_of task) status
Completes (does.Make series) limits status old new = Contains (DONE ∷ OUT_OF_MEMORY ∷ []) status
Completes (does.Trial series labelling) limits status old new =
    Contains (DONE ∷ FLAGGED ∷ OUT_OF_MEMORY ∷ []) status
Completes does.Help limits status old new = status ≡ DONE

abbrev pub RunsComplete : Type 0
RunsComplete = (settings : Settings) (limits : Limits) (status : ℕ) (old new : Streams)
    → Means (Some settings) limits status old new → NeverFails old.sink new.sink
    → Completes (action_of settings) limits status old new
