-- What a turn of reading brings. Own.
use Rattle.std.specs.Prelude.{◌≡◌, ◌≤◌, ◌<◌, ◌⊎◌, ◌++◌, [], ◌∷◌, ℕ, List, Result, Ok, Err, ⊤, length}
use Rattle.std.specs.declared.option.Option.{Option}
use Rattle.std.specs.Io.KnownBytes.{Consumes, IsAtEnd}
use Rattle.cip_frame.specs.Framing.{Framing, Holds, Passed}
use Rattle.cip_batch.specs.declared.streams.input.ReadStep.{ReadStep}
use Rattle.cip_batch.specs.declared.streams.input.ReadStep.TheVariants.{Piece, Last}
use Rattle.cip_batch.specs.declared.streams.input.InputEnd.{InputEnd}
use Rattle.cip_batch.specs.declared.streams.input.InputEnd.TheVariants.{End, Fault, Limit}
use Rattle.cip_batch.specs.declared.error.StreamError.{StreamError}
use Rattle.cip_batch.specs.declared.error.StreamError.TheVariants as stops

-- a framer that was fed nothing, by which a record may have n bytes
pub record IsFresh (limit : ℕ) (framer : Framing) : Type 0 where
  pub holds : Holds [] [] framer
  pub empty : framer.waiting ≡ []
  pub within : framer.limit ≡ limit

-- some bytes, at most n, were taken from the front of what the source had left
pub record TakesAtMost (most : ℕ) (left rest : Option (List ℕ)) : Type 0 where
  pub bytes : List ℕ
  pub few : length bytes ≤ most
  pub taken : Consumes left rest bytes

-- n bytes, at most as many as there is room for, went from the source to the framer
pub record Feeds (count room : ℕ) (left rest : Option (List ℕ)) (old new : Framing) : Type 0 where
  pub bytes : List ℕ
  pub counted : length bytes ≡ count
  pub some : 0 < count
  pub few : count ≤ room
  pub taken : Consumes left rest bytes
  pub fed : (given : List (List ℕ)) (before : List ℕ) → Holds given before old → Holds given (before ++ bytes) new

-- of these bytes and those that follow them, these make a record longer than a record may be
pub record Overfeeds (room : ℕ) (left rest : Option (List ℕ)) (old new : Framing) : Type 0 where
  pub bytes : List ℕ
  pub more : List ℕ
  pub few : length bytes ≤ room
  pub taken : Consumes left rest (bytes ++ more)
  pub fed : (given : List (List ℕ)) (before : List ℕ) → Holds given before old → Passed given (before ++ bytes) new

-- one byte more came than there is room for
pub record Overflows (room : ℕ) (left rest : Option (List ℕ)) (old new : Framing) : Type 0 where
  pub bytes : List ℕ
  pub next : ℕ
  pub full : length bytes ≡ room
  pub taken : Consumes left rest (bytes ++ next ∷ [])
  pub fed : (given : List (List ℕ)) (before : List ℕ) → Holds given before old → Holds given (before ++ bytes) new

-- nothing was taken
pub record StandsStill (left rest : Option (List ℕ)) (old new : Framing) : Type 0 where
  pub source : Consumes left rest []
  pub framer : new ≡ old

pub record Ends (left rest : Option (List ℕ)) (old new : Framing) : Type 0 where
  pub still : StandsStill left rest old new
  pub end : IsAtEnd rest

-- how nothing more came, where there was room for n bytes
abbrev pub Halts : InputEnd → ℕ → Option (List ℕ) → Option (List ℕ) → Framing → Framing → Type 0
Halts End room left rest old new = Ends left rest old new
Halts Fault room left rest old new = StandsStill left rest old new
Halts Limit room left rest old new = Overfeeds room left rest old new ⊎ Overflows room left rest old new

-- what a turn brought, where there is room for n bytes more
abbrev pub Brings : ℕ → Result ReadStep StreamError → Option (List ℕ) → Option (List ℕ) → Framing → Framing → Type 0
Brings room (Ok (Piece count)) left rest old new = Feeds count room left rest old new
Brings room (Ok (Last halt)) left rest old new = Halts halt room left rest old new
Brings room (Err stops.ReadFault) left rest old new = ⊥
Brings room (Err stops.Memory) left rest old new = ⊤
Brings room (Err stops.WriteFault) left rest old new = ⊥
Brings room (Err stops.Limit) left rest old new = ⊥
