-- What a run says of its status. Own.
use Rattle.std.specs.Prelude.{◌≡◌, ◌⊎◌, ⊤, ℕ, List, [], ◌∷◌, Some, None, IfSome, Contains}
use Rattle.std.specs.declared.option.Option.{Option}
use Rattle.std.specs.Io.KnownBytes.{Appends}
use Rattle.cip_io.specs.Faults.{Rose}
use Rattle.cip_io.specs.Growth.{AppendsPrefix}
use Rattle.cip_batch.specs.declared.limits.Limits.{Limits}
use Rattle.cip_batch.specs.Due.{verdict_of}
use Rattle.cip_batch.specs.Limits.{answered}
use Rattle.cip_batch.specs.ExpectedOutput.{ExpectedOutput}
use Rattle.cip_words.specs.Settings.{action_of}
use Rattle.cip_words.specs.declared.settings.Action.{Action}
use Rattle.cip_words.specs.declared.settings.Action.TheVariants as does
use Rattle.cip_words.specs.declared.settings.Settings.{Settings}
use Rattle.cip_words.specs.declared.settings.Task.{Task}
use Rattle.cip_commands.specs.declared.exit_reason.ExitReason.{ExitReason}
use Rattle.cip_commands.specs.declared.exit_reason.ExitReason.TheVariants.{Done, Flagged, NotChanged, WordsRefused, ReadFault, WriteFault, OutOfMemory, Limit}
use Rattle.cip_commands.specs.declared.exit_reason.ChangeNote.{ChangeNote}
use Rattle.cip_commands.specs.ExitStatuses.{DONE, FLAGGED, WORDS_REFUSED, READ_FAULT, WRITE_FAULT, OUT_OF_MEMORY, LIMIT, NOT_CHANGED}
use Rattle.cip_commands.specs.Endings.{line_of, missed, status_of}
use Rattle.cip_commands.specs.Telling.{expected_output}

-- a sink grew by a line where its count of faults didn't rise, else by a front of it
pub record Says (old new : Option (List ℕ)) (before now : ℕ) (line : List ℕ) : Type 0 where
  pub whole : Appends old new line ⊎ Rose before now
  pub front : AppendsPrefix old new line

-- what was to be changed and wasn't is what is missed among the records of the source, where it gives its bytes
abbrev pub IsMissed : Task → ExpectedOutput ChangeNote → Limits → Option (List ℕ) → ExitReason → Type 0
IsMissed task expected limits left (NotChanged what) =
    IfSome left (λ bytes. missed task (verdict_of expected (answered limits bytes)).note ≡ Some what)
IsMissed task expected limits left Done = ⊤
IsMissed task expected limits left Flagged = ⊤
IsMissed task expected limits left WordsRefused = ⊤
IsMissed task expected limits left ReadFault = ⊤
IsMissed task expected limits left WriteFault = ⊤
IsMissed task expected limits left OutOfMemory = ⊤
IsMissed task expected limits left Limit = ⊤

-- by what the command does
abbrev pub IsCauseBy : Action → Limits → Option (List ℕ) → ExitReason → Type 0
IsCauseBy (does.Read task labelling) limits left ending = IsMissed task (expected_output task labelling) limits left ending
IsCauseBy (does.Make series) limits left ending = ⊤
IsCauseBy (does.Trial series labelling) limits left ending = ⊤
IsCauseBy does.Help limits left ending = ⊤

abbrev pub IsCause : Option Settings → Limits → Option (List ℕ) → ExitReason → Type 0
IsCause None limits left ending = ⊤
IsCause (Some settings) limits left ending = IsCauseBy (action_of settings) limits left ending

-- what is said is the line of an ending with this status; where something wasn't changed, the line of its cause
pub record SaysEnding (settings : Option Settings) (limits : Limits) (left : Option (List ℕ)) (status : ℕ)
    (old new : Option (List ℕ)) (before now : ℕ) : Type 0 where
  pub ending : ExitReason
  pub ends : status_of ending ≡ status
  pub cause : IsCause settings limits left ending
  pub line : Says old new before now (line_of ending)

-- the statuses that a run ends with
abbrev pub IsStatus : ℕ → Type 0
IsStatus status = Contains
    (DONE ∷ FLAGGED ∷ WORDS_REFUSED ∷ READ_FAULT ∷ WRITE_FAULT ∷ OUT_OF_MEMORY ∷ LIMIT ∷ NOT_CHANGED ∷ []) status
