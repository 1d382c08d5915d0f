-- Rows read in turn.
use Rattle.std.proofs.Common.{◌≡◌, ◌<◌, ◌≤◌, ◌+◌, ◌-◌, ℕ, suc, List, [], ◌∷◌, ◌++◌, length, Result, Ok, Err, refl, sym, ◌∙◌, arith}
use Rattle.std.proofs.lemmas.List.{length-append}
use Rattle.cip_ctfile.specs.Reading.{in_turn, through, pushing}

-- a step was read
pub step_read : {A E : Type 0} (read : A → ℕ → Result A E) (before now : A) (count number : ℕ) (total : Result A E)
    → number < count → Ok now ≡ read before number → through read before (count - number) number ≡ total
    → through read now (count - (number + 1)) (number + 1) ≡ total
unfolding through
step_read read before now count number total more is so_far =
    let left : count - number ≡ suc (count - (number + 1)) = omega arith in
    let one : through read before (count - number) number
    ≡ through read now (count - (number + 1)) (number + 1) = rw (left, ← is) refl in
    sym one ∙ so_far

pub step_refused : {A E : Type 0} (read : A → ℕ → Result A E) (before : A) (count number : ℕ) (fault : E)
    (total : Result A E) → number < count → Err fault ≡ read before number
    → through read before (count - number) number ≡ total → total ≡ Err fault
unfolding through
step_refused read before count number fault total more is so_far =
    let left : count - number ≡ suc (count - (number + 1)) = omega arith in
    let one : through read before (count - number) number ≡ Err fault = rw (left, ← is) refl in
    sym so_far ∙ one

-- no step is left
pub steps_read : {A E : Type 0} (read : A → ℕ → Result A E) (before : A) (count number : ℕ) (total : Result A E)
    → count ≤ number → through read before (count - number) number ≡ total → total ≡ Ok before
unfolding through
steps_read read before count number total none so_far =
    let left : count - number ≡ 0 = omega arith in
    let one : through read before (count - number) number ≡ Ok before = rw left refl in
    sym so_far ∙ one

-- a row was read, and is after those before it
pub row_read : {A E : Type 0} (read : List A → ℕ → Result A E) (before : List A) (count number : ℕ) (row : A)
    (total : Result (List A) E) → number < count → Ok row ≡ read before number
    → in_turn read before (count - number) number ≡ total
    → in_turn read (before ++ row ∷ []) (count - (number + 1)) (number + 1) ≡ total
unfolding in_turn
row_read read before count number row total more is =
    let pushed : Ok (before ++ row ∷ []) ≡ pushing read before number = rw (← is) refl in
    step_read (pushing read) before (before ++ row ∷ []) count number total more pushed

pub row_refused : {A E : Type 0} (read : List A → ℕ → Result A E) (before : List A) (count number : ℕ) (fault : E)
    (total : Result (List A) E) → number < count → Err fault ≡ read before number
    → in_turn read before (count - number) number ≡ total → total ≡ Err fault
unfolding in_turn
row_refused read before count number fault total more is =
    let refused : Err fault ≡ pushing read before number = rw (← is) refl in
    step_refused (pushing read) before count number fault total more refused

-- no row is left
pub rows_read : {A E : Type 0} (read : List A → ℕ → Result A E) (before : List A) (count number : ℕ)
    (total : Result (List A) E) → count ≤ number → in_turn read before (count - number) number ≡ total
    → total ≡ Ok before
unfolding in_turn
rows_read read = steps_read (pushing read)

pub length-push : {A : Type 0} (xs : List A) (x : A) (n : ℕ) → length xs ≡ n → length (xs ++ x ∷ []) ≡ n + 1
length-push xs x n is = omega (arith, length-append xs (x ∷ []), is)
