-- What a turn of reading brings.
use Rattle.std.proofs.Common.{◌≡◌, ◌≤◌, ◌<◌, ◌+◌, ◌-◌, ◌++◌, ℕ, List, [], Option, Result, Ok, Err, length, take, drop, min, get_or, sym, ◌∙◌, ap, arith, subst}
use Rattle.std.proofs.lemmas.List.{take-append-drop, length-append, length-drop, length-take, take_more, take-take, take-append-le}
use Rattle.std.proofs.lemmas.Grind.{common_steps}
use Rattle.std.specs.Io.KnownBytes.{Consumes}
use Rattle.cip_frame.specs.Framing.{Framing, Holds, Passed}
use Rattle.cip_batch.specs.declared.streams.input.InputEnd.{InputEnd}
use Rattle.cip_batch.specs.declared.streams.input.InputEnd.TheVariants.{End, Fault, Limit}
use Rattle.cip_batch.specs.declared.streams.input.ReadStep.{ReadStep}
use Rattle.cip_batch.specs.declared.streams.input.ReadStep.TheVariants.{Piece, Last}
use Rattle.cip_batch.specs.declared.error.StreamError.{StreamError}
use Rattle.cip_batch.specs.declared.error.StreamError.TheVariants as stops
use Rattle.cip_batch.specs.Reading.{Brings, Feeds, Halts, Overfeeds, Overflows, TakesAtMost}

-- the framer takes these bytes
abbrev pub IsFed : List ℕ → Framing → Framing → Type 0
IsFed bytes old new = (given : List (List ℕ)) (before : List ℕ) → Holds given before old
    → Holds given (before ++ bytes) new

abbrev pub IsOverfed : List ℕ → Framing → Framing → Type 0
IsOverfed bytes old new = (given : List (List ℕ)) (before : List ℕ) → Holds given before old
    → Passed given (before ++ bytes) new

taken_length : (n : ℕ) (piece : List ℕ) → n ≤ length piece → length (take n piece) ≡ n
taken_length n piece within = length-take n piece ∙ grind (arith, common_steps)

-- no more than was asked for came
pub took : (count room : ℕ) (piece : List ℕ) (left rest : Option (List ℕ)) → count ≤ room + 1
    → Consumes left rest (take count piece) → TakesAtMost (room + 1) left rest
took count room piece left rest few taken = record {
  bytes = take count piece;
  few = omega (arith, length-take count piece, few);
  taken = taken;
}

-- nothing came
pub took_none : (most : ℕ) (left rest : Option (List ℕ)) → Consumes left rest [] → TakesAtMost most left rest
took_none most left rest none = record { bytes = []; few = omega arith; taken = none }

-- the framer wants memory
pub wants_memory : (room : ℕ) (stop : StreamError) (left rest : Option (List ℕ)) (old new : Framing) → stop ≡ stops.Memory
    → Brings room (Err stop) left rest old new
wants_memory room stop left rest old new is = subst (λ s. Brings room (Err s) left rest old new) (sym is) tt

pub less_room : (room count : ℕ) → 0 < count → count ≤ room → room - count < room
less_room room count some few = omega arith

-- what was put in front of a piece is still there
pub kept : (left rest : Option (List ℕ)) (count n : ℕ) (given more : List ℕ) → Consumes left rest (take count given)
    → count ≤ length given → count ≤ n
    → Consumes left rest (take count (take n (given ++ more)))
kept left rest count n given more taken within few =
    subst (Consumes left rest) (sym (take-take count n (given ++ more) few ∙ take-append-le count given more within))
    taken

pub feeds : (count room : ℕ) (piece : List ℕ) (left rest : Option (List ℕ)) (old new : Framing) → 0 < count
    → count ≤ room → count ≤ length piece
    → Consumes left rest (take count piece) → IsFed (take (min count room) piece) old new
    → Feeds count room left rest old new
feeds count room piece left rest old new some few within taken fed =
    let all : min count room ≡ count = grind (arith, common_steps) in
    record {
      bytes = take count piece;
      counted = taken_length count piece within;
      some = some;
      few = few;
      taken = taken;
      fed = subst (λ n. IsFed (take n piece) old new) all fed;
    }

pub overfeeds : (count room : ℕ) (piece : List ℕ) (left rest : Option (List ℕ)) (old new : Framing)
    → count ≤ length piece
    → Consumes left rest (take count piece) → IsOverfed (take (min count room) piece) old new
    → Overfeeds room left rest old new
overfeeds count room piece left rest old new within taken fed =
    let fewer : min count room ≤ count = grind (arith, common_steps) in
    let here : take (min count room) (take count piece)
    ≡ take (min count room) piece = take-take (min count room) count piece fewer in
    let parts : take (min count room) piece ++ drop (min count room) (take count piece) ≡ take count piece =
    ap (λ xs. xs ++ drop (min count room) (take count piece)) (sym here)
    ∙ take-append-drop (min count room) (take count piece) in
    record {
      bytes = take (min count room) piece;
      more = drop (min count room) (take count piece);
      few = rw (taken_length (min count room) piece (grind (arith, common_steps))) (grind (arith, common_steps));
      taken = subst (Consumes left rest) (sym parts) taken;
      fed = fed;
    }

pub overflows : (count room : ℕ) (piece : List ℕ) (left rest : Option (List ℕ)) (old new : Framing) → room < count
    → count ≤ room + 1 → count ≤ length piece
    → Consumes left rest (take count piece) → IsFed (take (min count room) piece) old new
    → Overflows room left rest old new
overflows count room piece left rest old new more few within taken fed =
    let all : min count room ≡ room = grind (arith, common_steps) in
    let one : count ≡ room + 1 = omega arith in
    record {
      bytes = take room piece;
      next = get_or piece room 0;
      full = taken_length room piece (omega arith);
      taken = subst (Consumes left rest) (ap (λ n. take n piece) one ∙ take_more piece room 0 (omega arith)) taken;
      fed = subst (λ n. IsFed (take n piece) old new) all fed;
    }

-- what a turn brought, by its kind

pub piece_came : (room count : ℕ) (turn : ReadStep) (left rest : Option (List ℕ)) (old new : Framing) → turn ≡ Piece count
    → Brings room (Ok turn) left rest old new → Feeds count room left rest old new
piece_came room count turn left rest old new is came = subst (λ t. Brings room (Ok t) left rest old new) is came

pub last_came : (room : ℕ) (halt : InputEnd) (turn : ReadStep) (left rest : Option (List ℕ)) (old new : Framing)
    → turn ≡ Last halt → Brings room (Ok turn) left rest old new → Halts halt room left rest old new
last_came room halt turn left rest old new is came = subst (λ t. Brings room (Ok t) left rest old new) is came

-- a list whose front was written to is as long still
pub as_many : {X : Type 0} (n : ℕ) (given items : List X) → n ≡ length items
    → length (take n (given ++ drop (length given) items)) ≡ length items
as_many n given items all =
    let long : length (given ++ drop (length given) items)
    ≡ length given + (length items - length given) = length-append given (drop (length given) items)
    ∙ ap (λ k. length given + k) (length-drop (length given) items) in
    rw (length-take n (given ++ drop (length given) items), long) (grind (arith, common_steps))

-- what is no fault of the source

pub piece_no_fault : {P : Type 0} (count : ℕ) → ◌≡◌ {A = Result ReadStep StreamError} (Ok (Piece count)) (Ok (Last Fault)) → P
piece_no_fault count is = cc

pub end_no_fault : {P : Type 0} → ◌≡◌ {A = Result ReadStep StreamError} (Ok (Last End)) (Ok (Last Fault)) → P
end_no_fault is = cc

pub failed_no_fault : {P : Type 0} (stop : StreamError) → ◌≡◌ {A = Result ReadStep StreamError} (Err stop) (Ok (Last Fault)) → P
failed_no_fault stop is = cc

pub limit_no_fault : {P : Type 0} → ◌≡◌ {A = Result ReadStep StreamError} (Ok (Last Limit)) (Ok (Last Fault)) → P
limit_no_fault is = cc
