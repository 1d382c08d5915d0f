-- Runs over a stream that is divided after a closed record. Own.
use Rattle.std.specs.Prelude.{◌≡◌, ◌++◌, ℕ, List, true, max}
use Rattle.std.specs.Io.KnownBytes.{Appends}
use Rattle.cip_batch.specs.declared.limits.Limits.{Limits}
use Rattle.cip_batch.specs.Dividing.{is_closed}
use Rattle.cip_words.specs.Ranges.{Labelling}
use Rattle.cip_words.specs.declared.settings.Action.TheVariants.{Read}
use Rattle.cip_words.specs.declared.settings.Task.TheVariants.{Annotate}
use Rattle.cip_laws.specs.runs.Laws.{WasDone}
use Rattle.cip_commands.specs.Statuses.{Stream, Streams}

-- the sink of the first run grew by what those of the two others grew by, and its status is the greater of theirs
pub record AddsUp (whole front behind : ℕ) (old new front_old front_new behind_old behind_new : Stream) : Type 0 where
  pub front_text : List ℕ
  pub behind_text : List ℕ
  pub status : whole ≡ max front behind
  pub written : Appends old.bytes new.bytes (front_text ++ behind_text)
  pub front_written : Appends front_old.bytes front_new.bytes front_text
  pub behind_written : Appends behind_old.bytes behind_new.bytes behind_text

-- a stream that is annotated at once gets the text that its parts get, if it is divided after a closed record
abbrev pub PartsAddUp : Type 0
PartsAddUp = (labelling : Labelling) (limits : Limits) (front behind : List ℕ) (whole one other : ℕ)
    (old new front_old front_new behind_old behind_new : Streams) → is_closed front ≡ true
    → WasDone (Read Annotate labelling) limits (front ++ behind) whole old new
    → WasDone (Read Annotate labelling) limits front one front_old front_new
    → WasDone (Read Annotate labelling) limits behind other behind_old behind_new
    → AddsUp whole one other old.sink new.sink front_old.sink front_new.sink behind_old.sink behind_new.sink
