-- The first line of a text, and the others.
use Rattle.std.proofs.Common.{◌≡◌, ◌<◌, ℕ, List, [], ◌∷◌, Bool, true, false, ◌==◌, refl, ap, arith, length, take, drop}
use Rattle.std.specs.List.{concat, onto_first}
use Rattle.cip_text.specs.Lines.{lines_of, line_length}

join_onto : (b : ℕ) (lines : List (List ℕ)) → concat (onto_first b lines) ≡ b ∷ concat lines
join_onto b [] = refl
join_onto b (line ∷ lines) = refl

join_byte : (b : ℕ) (bs : List ℕ) (k : Bool) → (b == 10) ≡ k → concat (lines_of bs) ≡ bs
    → concat (lines_of (b ∷ bs)) ≡ b ∷ bs
join_byte b bs true e more = rw e (ap (λ xs. b ∷ xs) more)
join_byte b bs false e more = rw (e, join_onto b (lines_of bs)) (ap (λ xs. b ∷ xs) more)

-- the lines joined are the text
pub lines_join : (bytes : List ℕ) → concat (lines_of bytes) ≡ bytes
lines_join [] = refl
lines_join (b ∷ bs) = join_byte b bs (b == 10) refl (lines_join bs)

abbrev IsSplit : List ℕ → Type 0
IsSplit bytes = lines_of bytes ≡ take (line_length bytes) bytes ∷ lines_of (drop (line_length bytes) bytes)

split_last : (b : ℕ) (k : Bool) → (b == 10) ≡ k → IsSplit (b ∷ [])
split_last b true e = rw e refl
split_last b false e = rw e refl

split_byte : (b c : ℕ) (cs : List ℕ) (k : Bool) → (b == 10) ≡ k → IsSplit (c ∷ cs) → IsSplit (b ∷ c ∷ cs)
split_byte b c cs true e more = rw e refl
split_byte b c cs false e more = rw (e, more) refl

split_some : (b : ℕ) (bs : List ℕ) → IsSplit (b ∷ bs)
split_some b [] = split_last b (b == 10) refl
split_some b (c ∷ cs) = split_byte b c cs (b == 10) refl (split_some c cs)

-- the lines of a text are its first line and the lines of the rest
pub lines_split : (bytes : List ℕ) → 0 < length bytes
    → lines_of bytes ≡ take (line_length bytes) bytes ∷ lines_of (drop (line_length bytes) bytes)
lines_split [] some = absurd (omega arith)
lines_split (b ∷ bs) some = split_some b bs

length_byte : (b : ℕ) (bs : List ℕ) (k : Bool) → (b == 10) ≡ k → 0 < line_length (b ∷ bs)
length_byte b bs true e = rw e (omega arith)
length_byte b bs false e = rw e (omega arith)

pub some_length : (bytes : List ℕ) → 0 < length bytes → 0 < line_length bytes
some_length [] some = absurd (omega arith)
some_length (b ∷ bs) some = length_byte b bs (b == 10) refl
