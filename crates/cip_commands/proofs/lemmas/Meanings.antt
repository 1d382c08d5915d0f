-- Which statuses a command ends with.
use Rattle.std.proofs.Common.{◌≡◌, ◌<◌, ℕ, zero, suc, List, [], ◌∷◌, Option, Some, None, refl, subst, arith, length}
use Rattle.std.specs.Prelude.{◌↔◌, ⊤, Contains}
use Rattle.std.specs.List.{slice_index_or}
use Rattle.cip_batch.specs.declared.limits.Limits.{Limits}
use Rattle.cip_batch.specs.ExpectedOutput.{ExpectedOutput}
use Rattle.cip_words.specs.Settings.{action_of}
use Rattle.cip_words.specs.declared.settings.Action.{Action}
use Rattle.cip_words.specs.declared.settings.Action.TheVariants as does
use Rattle.cip_words.specs.declared.settings.Settings.{Settings}
use Rattle.cip_words.specs.declared.settings.Task.{Task}
use Rattle.cip_words.specs.declared.settings.Task.TheVariants as tasks
use Rattle.cip_commands.specs.ExitStatuses.{DONE, FLAGGED, WORDS_REFUSED, READ_FAULT, WRITE_FAULT, OUT_OF_MEMORY, LIMIT, NOT_CHANGED}
use Rattle.cip_commands.specs.Statuses.{Means, MeansBy, MeansOf, Streams}
use Rattle.cip_commands.specs.Telling.{expected_output}
use Rattle.cip_commands.specs.declared.exit_reason.ChangeNote.{ChangeNote}

-- one of some statuses

abbrev Each : (ℕ → Type 0) → List ℕ → Type 0
Each P [] = ⊤
Each P (x ∷ xs) = P x × Each P xs

each_at : (P : ℕ → Type 0) (xs : List ℕ) (status k : ℕ) → Each P xs → k < length xs
    → slice_index_or xs k status ≡ status → P status
each_at P [] status k all within is = absurd (omega (arith, within))
each_at P (x ∷ xs) status zero all within is = subst P is all.0
each_at P (x ∷ xs) status (suc k) all within is = each_at P xs status k all.1 (omega (arith, within)) is

each : (P : ℕ → Type 0) (xs : List ℕ) (status : ℕ) → Each P xs → Contains xs status → P status
each P xs status all one = each_at P xs status one.0 all one.1 one.2

-- by command

pub by_reading : (P : ℕ → Type 0) (status : ℕ) → P DONE → P FLAGGED → P READ_FAULT → P WRITE_FAULT → P OUT_OF_MEMORY
    → P LIMIT → Contains (DONE ∷ FLAGGED ∷ READ_FAULT ∷ WRITE_FAULT ∷ OUT_OF_MEMORY ∷ LIMIT ∷ []) status → P status
by_reading P status done flagged read write memory limit =
    each P (DONE ∷ FLAGGED ∷ READ_FAULT ∷ WRITE_FAULT ∷ OUT_OF_MEMORY ∷ LIMIT ∷ []) status
    (done, (flagged, (read, (write, (memory, (limit, tt))))))

pub by_changing : (P : ℕ → Type 0) (status : ℕ) → P DONE → P FLAGGED → P READ_FAULT → P WRITE_FAULT → P OUT_OF_MEMORY
    → P LIMIT → P NOT_CHANGED
    → Contains (DONE ∷ FLAGGED ∷ READ_FAULT ∷ WRITE_FAULT ∷ OUT_OF_MEMORY ∷ LIMIT ∷ NOT_CHANGED ∷ []) status → P status
by_changing P status done flagged read write memory limit missed =
    each P (DONE ∷ FLAGGED ∷ READ_FAULT ∷ WRITE_FAULT ∷ OUT_OF_MEMORY ∷ LIMIT ∷ NOT_CHANGED ∷ []) status
    (done, (flagged, (read, (write, (memory, (limit, (missed, tt)))))))

pub by_making : (P : ℕ → Type 0) (status : ℕ) → P DONE → P WRITE_FAULT → P OUT_OF_MEMORY
    → Contains (DONE ∷ WRITE_FAULT ∷ OUT_OF_MEMORY ∷ []) status → P status
by_making P status done write memory =
    each P (DONE ∷ WRITE_FAULT ∷ OUT_OF_MEMORY ∷ []) status (done, (write, (memory, tt)))

pub by_trying : (P : ℕ → Type 0) (status : ℕ) → P DONE → P FLAGGED → P WRITE_FAULT → P OUT_OF_MEMORY
    → Contains (DONE ∷ FLAGGED ∷ WRITE_FAULT ∷ OUT_OF_MEMORY ∷ []) status → P status
by_trying P status done flagged write memory =
    each P (DONE ∷ FLAGGED ∷ WRITE_FAULT ∷ OUT_OF_MEMORY ∷ []) status (done, (flagged, (write, (memory, tt))))

pub by_helping : (P : ℕ → Type 0) (status : ℕ) → P DONE → P WRITE_FAULT → Contains (DONE ∷ WRITE_FAULT ∷ []) status
    → P status
by_helping P status done write = each P (DONE ∷ WRITE_FAULT ∷ []) status (done, (write, tt))

pub by_end : (P : ℕ → Type 0) (status : ℕ) → P DONE → P FLAGGED → P NOT_CHANGED
    → Contains (DONE ∷ FLAGGED ∷ NOT_CHANGED ∷ []) status → P status
by_end P status done flagged missed =
    each P (DONE ∷ FLAGGED ∷ NOT_CHANGED ∷ []) status (done, (flagged, (missed, tt)))

by_task : (P : ℕ → Type 0) → P DONE → P FLAGGED → P READ_FAULT → P WRITE_FAULT → P OUT_OF_MEMORY → P LIMIT
    → P NOT_CHANGED → (task : Task) (expected : ExpectedOutput ChangeNote) (limits : Limits) (status : ℕ) (old new : Streams)
    → MeansOf task expected limits status old new → P status
by_task P done flagged read write memory limit missed (tasks.Set number atom letter) expected limits status old new
    meant = by_changing P status done flagged read write memory limit missed meant.comes
by_task P done flagged read write memory limit missed tasks.Mirror expected limits status old new meant =
    by_changing P status done flagged read write memory limit missed meant.comes
by_task P done flagged read write memory limit missed task expected limits status old new meant =
    by_reading P status done flagged read write memory limit meant.comes

by_action : (P : ℕ → Type 0) → P DONE → P FLAGGED → P READ_FAULT → P WRITE_FAULT → P OUT_OF_MEMORY → P LIMIT
    → P NOT_CHANGED → (action : Action) (limits : Limits) (status : ℕ) (old new : Streams)
    → MeansBy action limits status old new → P status
by_action P done flagged read write memory limit missed (does.Read task labelling) limits status old new meant =
    by_task P done flagged read write memory limit missed task (expected_output task labelling) limits status old new meant
by_action P done flagged read write memory limit missed (does.Make series) limits status old new meant =
    by_making P status done write memory meant.comes
by_action P done flagged read write memory limit missed (does.Trial series labelling) limits status old new meant =
    by_trying P status done flagged write memory meant.comes
by_action P done flagged read write memory limit missed does.Help limits status old new meant =
    by_helping P status done write meant.comes

accepted : (action : Action) (limits : Limits) (status : ℕ) (old new : Streams) → MeansBy action limits status old new
    → status ≡ WORDS_REFUSED → ⊥
accepted action limits status old new meant =
    by_action (λ s. s ≡ WORDS_REFUSED → ⊥) (λ is. omega (arith, is)) (λ is. omega (arith, is)) (λ is. omega (arith, is))
    (λ is. omega (arith, is)) (λ is. omega (arith, is)) (λ is. omega (arith, is)) (λ is. omega (arith, is))
    action limits status old new meant

-- words are refused exactly where they ask for nothing
pub refused : (settings : Option Settings) (limits : Limits) (status : ℕ) (old new : Streams)
    → Means settings limits status old new → status ≡ WORDS_REFUSED ↔ (settings ≡ None)
refused None limits status old new meant = (λ is. refl, λ none. meant)
refused (Some settings) limits status old new meant =
    (λ is. absurd (accepted (action_of settings) limits status old new meant is), λ none. absurd (cc))
