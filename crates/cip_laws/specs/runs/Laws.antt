-- What the text that is due is, in plain words, and what doesn't change it. Own.
use Rattle.std.specs.Prelude.{◌≡◌, ℕ, List, [], ◌∷◌, Some, Contains}
use Rattle.std.specs.Io.KnownBytes.{Appends}
use Rattle.cip_item.specs.Parts.{without_label_items}
use Rattle.cip_item.specs.Putting.{with_item}
use Rattle.cip_rank.specs.declared.rules.Rules.{Rules}
use Rattle.cip_batch.specs.declared.limits.Limits.{Limits}
use Rattle.cip_words.specs.declared.settings.Action.{Action}
use Rattle.cip_words.specs.declared.settings.Action.TheVariants.{Read, Make, Trial, Help}
use Rattle.cip_commands.specs.ExitStatuses.{DONE, FLAGGED, NOT_CHANGED}
use Rattle.cip_commands.specs.Statuses.{MeansBy, Stream, Streams}
use Rattle.cip_commands.specs.Telling.{annotated}

-- a text is a record without its label items, with a new one put in
pub record HasItem (bytes text : List ℕ) : Type 0 where
  pub values : List (List ℕ)
  pub put : text ≡ with_item (without_label_items bytes) values

-- a record comes back in the text that it is answered with
abbrev pub RecordsComeBack : Type 0
RecordsComeBack = (rules : Rules) (nodes : ℕ) (bytes : List ℕ) → HasItem bytes (annotated rules nodes bytes)

-- workers

abbrev pub with_workers : ℕ → Action → Action
with_workers count (Read task labelling) = Read task (record labelling { workers = count })
with_workers count (Make series) = Make series
with_workers count (Trial series labelling) = Trial series (record labelling { workers = count })
with_workers count Help = Help

-- a run over these bytes was done, though maybe not all that was to be changed was
pub record WasDone (action : Action) (limits : Limits) (bytes : List ℕ) (status : ℕ) (old new : Streams) : Type 0 where
  pub meant : MeansBy action limits status old new
  pub over : old.source.bytes ≡ Some bytes
  pub done : Contains (DONE ∷ FLAGGED ∷ NOT_CHANGED ∷ []) status

-- two runs have the same status, and their sinks grew by the same text
pub record EndAlike (one other : ℕ) (old new before now : Stream) : Type 0 where
  pub text : List ℕ
  pub same : one ≡ other
  pub first : Appends old.bytes new.bytes text
  pub second : Appends before.bytes now.bytes text

-- with other workers the same bytes give the same status and the same text
abbrev pub WorkersChangeNothing : Type 0
WorkersChangeNothing = (action : Action) (workers : ℕ) (limits : Limits) (bytes : List ℕ)
    (one other : ℕ) (old new before now : Streams)
    → WasDone action limits bytes one old new → WasDone (with_workers workers action) limits bytes other before now
    → EndAlike one other old.sink new.sink before.sink now.sink
