-- What annotating makes of a record that was annotated before. Own.
use Rattle.std.specs.Prelude.{◌≡◌, ℕ, List, [], true, Some, None}
use Rattle.std.specs.List.{AllByRecursion, list_any}
use Rattle.cip_text.specs.Bodies.{body_contents}
use Rattle.cip_text.specs.Kinds.{is_molecule_end}
use Rattle.cip_item.specs.Parts.{without_label_items}
use Rattle.cip_item.specs.Putting.{prepared}
use Rattle.cip_rank.specs.declared.rules.Rules.{Rules}
use Rattle.cip_answer.specs.Answers.{answer_by}
use Rattle.cip_answer.specs.Laws.{IsComplete}
use Rattle.cip_frame.specs.Records.{records_of}
use Rattle.cip_batch.specs.declared.limits.Limits.{Limits}
use Rattle.cip_batch.specs.Due.{are_flagged, due}
use Rattle.cip_batch.specs.Limits.{limit_place, answered}
use Rattle.cip_words.specs.Ranges.{Labelling}
use Rattle.cip_words.specs.declared.settings.Action.TheVariants.{Read}
use Rattle.cip_words.specs.declared.settings.Task.TheVariants.{Annotate}
use Rattle.cip_laws.specs.runs.Laws.{EndAlike, WasDone, with_workers}
use Rattle.cip_commands.specs.Statuses.{Streams}
use Rattle.cip_commands.specs.Telling.{annotated, annotating}

-- the new item can be taken out: what is left is the record without its earlier ones, up to the line ends that an item
-- needs
abbrev pub ItemsComeOut : Type 0
ItemsComeOut = (rules : Rules) (nodes : ℕ) (bytes : List ℕ)
    → without_label_items (annotated rules nodes bytes) ≡ prepared (without_label_items bytes)

-- a record with an `M  END` line isn't refused for a line that is missing
abbrev pub EndsAsItSays : Rules → ℕ → List ℕ → Type 0
EndsAsItSays rules nodes bytes =
    list_any is_molecule_end (body_contents (without_label_items bytes)) ≡ true
    → IsComplete (answer_by rules nodes bytes)

-- a record that was annotated has the same answer, and is annotated with the same text
pub record StaysAnnotated (rules : Rules) (nodes : ℕ) (bytes : List ℕ) : Type 0 where
  pub answer : answer_by rules nodes (annotated rules nodes bytes) ≡ answer_by rules nodes bytes
  pub text : annotated rules nodes (annotated rules nodes bytes) ≡ annotated rules nodes bytes

-- annotating twice is annotating once, but for records that are refused for a missing line although they have an
-- `M  END` line
abbrev pub AnnotatingRepeats : Type 0
AnnotatingRepeats = (rules : Rules) (nodes : ℕ) (bytes : List ℕ) → EndsAsItSays rules nodes bytes
    → StaysAnnotated rules nodes bytes

-- what is due for a stream is due for itself
pub record StreamStays (rules : Rules) (nodes : ℕ) (limits : Limits) (bytes : List ℕ) : Type 0 where
  pub text : due (annotating rules nodes) limits (due (annotating rules nodes) limits bytes)
      ≡ due (annotating rules nodes) limits bytes
  pub flags : are_flagged (annotating rules nodes) (answered limits (due (annotating rules nodes) limits bytes))
      ≡ are_flagged (annotating rules nodes) (answered limits bytes)

-- the same for whole streams, within the limits
abbrev pub StreamsRepeat : Type 0
StreamsRepeat = (rules : Rules) (nodes : ℕ) (limits : Limits) (bytes : List ℕ)
    → limit_place limits bytes ≡ None → limit_place limits (due (annotating rules nodes) limits bytes) ≡ None
    → AllByRecursion (EndsAsItSays rules nodes) (records_of bytes) → StreamStays rules nodes limits bytes

-- a run over what a run wrote writes the same, and has the same status
abbrev pub RunsRepeat : Type 0
RunsRepeat = (labelling : Labelling) (others : ℕ) (limits : Limits) (bytes text : List ℕ) (one other : ℕ)
    (old new before now : Streams) → WasDone (Read Annotate labelling) limits bytes one old new
    → old.sink.bytes ≡ Some [] → new.sink.bytes ≡ Some text
    → WasDone (with_workers others (Read Annotate labelling)) limits text other before now
    → AllByRecursion (EndsAsItSays labelling.rules labelling.nodes) (records_of bytes)
    → EndAlike one other old.sink new.sink before.sink now.sink
