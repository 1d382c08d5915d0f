-- Where the lines of a text end.
use Rattle.std.proofs.Common.{◌≡◌, ◌<◌, ◌++◌, ℕ, suc, List, [], ◌∷◌, Bool, true, false, not, ◌==◌, ◌&&◌, ◌||◌, nat_lt, refl, sym, ◌∙◌, arith, length}
use Rattle.std.specs.List.{onto_first}
use native.Mathlib.Numerals.{unary_clauses}
use Rattle.cip_text.specs.Lines.{lines_of, ends_with_byte}
use Rattle.cip_text.specs.Laws.{has_line_feed, is_ended, are_ended}

-- the last line is ended, or is open and not empty

abbrev is_last : List ℕ → Bool
is_last line = is_ended line || nat_lt 0 (length line) && not (has_line_feed line)

or_still : (a b c d : Bool) → (a || b && d) ≡ true → c ≡ true → (a || c && d) ≡ true
or_still true b c d h k = refl
or_still false true c d h k = rw k h
or_still false false c d h k = absurd (grind (arith, h))

last_onto : (b : ℕ) (line : List ℕ) → (b == 10) ≡ false → is_last line ≡ true → is_last (b ∷ line) ≡ true
last_onto b line e h = rw e (or_still (is_ended line) (nat_lt 0 (length line)) (nat_lt 0 (suc (length line)))
    (not (has_line_feed line)) h (grind arith))

ended_onto : (b : ℕ) (lines : List (List ℕ)) → (b == 10) ≡ false → are_ended lines ≡ true
    → are_ended (onto_first b lines) ≡ true
ended_onto b [] e h = rw e refl
ended_onto b (line ∷ []) e h = last_onto b line e h
ended_onto b (line ∷ next ∷ lines) e h = rw e h

ended_behind : (b : ℕ) (lines : List (List ℕ)) → (b == 10) ≡ true → are_ended lines ≡ true
    → are_ended ((b ∷ []) ∷ lines) ≡ true
ended_behind b [] e h = rw e refl
ended_behind b (next ∷ lines) e h = rw e h

ended_byte : (b : ℕ) (bs : List ℕ) (k : Bool) → (b == 10) ≡ k → are_ended (lines_of bs) ≡ true
    → are_ended (lines_of (b ∷ bs)) ≡ true
ended_byte b bs true e more = rw e (ended_behind b (lines_of bs) e more)
ended_byte b bs false e more = rw e (ended_onto b (lines_of bs) e more)

-- every line but the last is ended, and the last one is or is open
pub lines_ended : (bytes : List ℕ) → are_ended (lines_of bytes) ≡ true
lines_ended [] = refl
lines_ended (b ∷ bs) = ended_byte b bs (b == 10) refl (lines_ended bs)

-- a text that is cut after a line end

onto_some : (b : ℕ) (lines more : List (List ℕ)) → 0 < length lines
    → onto_first b (lines ++ more) ≡ onto_first b lines ++ more
onto_some b [] more some = absurd (omega arith)
onto_some b (line ∷ lines) more some = refl

some_onto : (b : ℕ) (lines : List (List ℕ)) → 0 < length (onto_first b lines)
some_onto b [] = omega arith
some_onto b (line ∷ lines) = omega arith

some_byte : (b : ℕ) (bs : List ℕ) (k : Bool) → (b == 10) ≡ k → 0 < length (lines_of (b ∷ bs))
some_byte b bs true e = rw e (omega arith)
some_byte b bs false e = rw e (some_onto b (lines_of bs))

cut_byte : (b c : ℕ) (cs behind : List ℕ) (k : Bool) → (b == 10) ≡ k
    → lines_of (c ∷ cs ++ behind) ≡ lines_of (c ∷ cs) ++ lines_of behind →
    lines_of (b ∷ c ∷ cs ++ behind) ≡ lines_of (b ∷ c ∷ cs) ++ lines_of behind
cut_byte b c cs behind true e more = rw (e, more) refl
cut_byte b c cs behind false e more = rw (e, more)
    (onto_some b (lines_of (c ∷ cs)) (lines_of behind) (some_byte c cs (c == 10) refl))

last_is_behind : (b c : ℕ) (cs : List ℕ) → ends_with_byte 10 (b ∷ c ∷ cs) ≡ ends_with_byte 10 (c ∷ cs)
last_is_behind b c cs =
    let more : nat_lt 0 (suc (suc (length cs))) ≡ true = grind arith in
    let some : nat_lt 0 (suc (length cs)) ≡ true = grind arith in
    simp unary_clauses (rw (more, some) refl)

pub lines_cut : (before behind : List ℕ) → ends_with_byte 10 before ≡ true
    → lines_of (before ++ behind) ≡ lines_of before ++ lines_of behind
lines_cut [] behind h = absurd (grind (arith, h))
lines_cut (b ∷ []) behind h = rw (h) refl
lines_cut (b ∷ c ∷ cs) behind h = cut_byte b c cs behind (b == 10) refl
    (lines_cut (c ∷ cs) behind (sym (last_is_behind b c cs) ∙ h))
