-- What a framer holds of all that it was fed. Own.
use Rattle.std.specs.Prelude.{◌≡◌, ℕ, List, ◌++◌, Bool, true, false, None, ◌&&◌, nat_le, length}
use Rattle.std.specs.declared.option.Option.{Option}
use Rattle.std.specs.List.{list_all, take_while}
use Rattle.cip_frame.specs.declared.fault.FrameFault.{FrameFault}
use Rattle.cip_frame.specs.declared.record.Tail.{Tail}
use Rattle.cip_frame.specs.declared.record.Tail.TheVariants.{Nothing, Blank, Last}
use Rattle.cip_frame.specs.Records.{Cut, cut_of}

-- the whole records that wait, the bytes of the open one, the limit of a record, and why no more is taken
pub record Framing : Type 0 where
  pub waiting : List (List ℕ)
  pub open_bytes : List ℕ
  pub limit : ℕ
  pub fault : Option FrameFault

abbrev pub fits : ℕ → List ℕ → Bool
fits limit bytes = nat_le (length bytes) limit

-- what follows the last closed record isn't longer than the limit
abbrev pub is_within : ℕ → Tail → Bool
is_within limit Nothing = true
is_within limit (Blank bytes) = fits limit bytes
is_within limit (Last last) = fits limit last.bytes

-- no closed record and no rest is longer than the limit
abbrev pub all_fit : ℕ → Cut → Bool
all_fit limit cut = list_all (fits limit) cut.whole && fits limit cut.rest

-- these records were handed out of what was fed: the others wait, and what follows the last of them is open
pub record Holds (given : List (List ℕ)) (fed : List ℕ) (framer : Framing) : Type 0 where
  pub records : given ++ framer.waiting ≡ (cut_of fed).whole
  pub open_bytes : framer.open_bytes ≡ (cut_of fed).rest
  pub within : all_fit framer.limit (cut_of fed) ≡ true
  pub fault : framer.fault ≡ None

-- a record or the rest of what was fed is longer than the limit: those before it were handed out or wait
pub record Passed (given : List (List ℕ)) (fed : List ℕ) (framer : Framing) : Type 0 where
  pub records : given ++ framer.waiting ≡ take_while (fits framer.limit) (cut_of fed).whole
  pub passed : all_fit framer.limit (cut_of fed) ≡ false

-- a list goes on from a front
pub record IsFrontOf (front all : List (List ℕ)) : Type 0 where
  pub more : List (List ℕ)
  pub joined : all ≡ front ++ more
