-- How the bytes that a sink took grow.
use Rattle.std.proofs.Common.{◌≡◌, ℕ, ◌+◌, List, [], ◌++◌, length, take, drop, Some, None, Option, Result, Ok, Err, OnOk, OnErr, sym, ◌∙◌, ap, append-nil, append_assoc, length-append, arith}
use Rattle.std.proofs.Math.Seq.{take-add, take-append-add}
use Rattle.std.proofs.lemmas.List.{take-append-le}
use Rattle.std.specs.Io.KnownBytes.{Appends}
use Rattle.cip_io.specs.Growth.{AppendsPrefix, TakesFront}

pub appends_none : (old : Option (List ℕ)) → Appends old old []
appends_none None = tt
appends_none (Some bytes) = sym (append-nil bytes)

pub appends_both : (old middle new : Option (List ℕ)) (xs ys : List ℕ) → Appends old middle xs → Appends middle new ys
    → Appends old new (xs ++ ys)
appends_both None middle new xs ys first second = tt
appends_both (Some b) None new xs ys first second = absurd first
appends_both (Some b) (Some c) None xs ys first second = absurd second
appends_both (Some b) (Some c) (Some d) xs ys first second = second ∙ ap (λ text. text ++ ys) first
    ∙ append_assoc b xs ys

-- a front that is written after what was written is a front of both
pub prefix_behind : (old middle new : Option (List ℕ)) (xs ys : List ℕ) → Appends old middle xs
    → AppendsPrefix middle new ys → AppendsPrefix old new (xs ++ ys)
prefix_behind old middle new xs ys first second = (
  length xs + second.0,
  rw (length-append xs ys) (omega (arith, second.1)),
  rw (take-append-add xs ys second.0) (appends_both old middle new xs (take second.0 ys) first second.2),
)

-- a front of a text is a front of a longer one
pub prefix_longer : (old new : Option (List ℕ)) (text more : List ℕ) → AppendsPrefix old new text
    → AppendsPrefix old new (text ++ more)
prefix_longer old new text more front = (
  front.0,
  rw (length-append text more) (omega (arith, front.1)),
  rw (take-append-le front.0 text more front.1) front.2,
)

-- the first bytes of a piece, and then the next ones
pub appends_more : (old middle new : Option (List ℕ)) (piece : List ℕ) (done more : ℕ)
    → Appends old middle (take done piece) → Appends middle new (take more (drop done piece))
    → Appends old new (take (done + more) piece)
appends_more old middle new piece done more first second =
    rw (take-add done more piece) (appends_both old middle new (take done piece)
    (take more (drop done piece)) first second)

-- what waited was taken, and then a piece, or a front of it

pub all_taken : {T E : Type 0} (result : Result T E) (old middle new : Option (List ℕ)) (before piece rest : List ℕ)
    → rest ≡ [] → Appends old middle before → OnOk result (Appends middle new piece)
    → OnOk result (TakesFront old new (before ++ piece) rest)
all_taken (Ok x) old middle new before piece rest none first second = record {
  front = before ++ piece;
  parts = ap (λ xs. (before ++ piece) ++ xs) none ∙ append-nil (before ++ piece);
  written = appends_both old middle new before piece first second;
}
all_taken (Err e) old middle new before piece rest none first second = tt

pub front_taken : {T E : Type 0} (result : Result T E) (old middle new : Option (List ℕ)) (before piece : List ℕ)
    → Appends old middle before → AppendsPrefix middle new piece
    → OnErr result (AppendsPrefix old new (before ++ piece))
front_taken (Ok x) old middle new before piece first second = tt
front_taken (Err e) old middle new before piece first second = prefix_behind old middle new before piece first second
