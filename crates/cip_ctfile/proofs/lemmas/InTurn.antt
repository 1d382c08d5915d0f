-- Rows that are read in turn, each by itself.
use Rattle.std.proofs.Common.{◌≡◌, ◌<◌, ◌+◌, ℕ, zero, suc, List, [], ◌∷◌, ◌++◌, length, take, get_or, Result, Ok, Err, refl, sym, ap, ◌∙◌, arith, append_assoc, append-nil}
use Rattle.cip_ctfile.specs.Reading.{◌>>=◌, through, pushing, in_turn}

-- what follows was read
pub record Follows {A B E : Type 0} (read : Result A E) (next : A → Result B E) (total : B) : Type 0 where
  pub given : A
  pub first : read ≡ Ok given
  pub behind : next given ≡ Ok total

pub follows : {A B E : Type 0} (read : Result A E) (next : A → Result B E) (total : B)
    → (read >>= next) ≡ Ok total → Follows read next total
follows (Ok given) next total h = record { given = given; first = refl; behind = h }
follows (Err fault) next total h = absurd cc

-- each row is read after those before it
pub record AreRead {A E : Type 0} (read : List A → ℕ → Result A E) (before : List A) (number : ℕ) (rows : List A) : Type 0 where
  pub each : (k : ℕ) (d : A) → k < length rows → read (before ++ take k rows) (number + k) ≡ Ok (get_or rows k d)

pub record ReadsRows {A E : Type 0} (read : List A → ℕ → Result A E) (before : List A) (count number : ℕ) (total : List A) : Type 0 where
  pub rows : List A
  pub whole : total ≡ before ++ rows
  pub counted : length rows ≡ count
  pub are : AreRead read before number rows

none_read : {A E : Type 0} (read : List A → ℕ → Result A E) (before : List A) (number : ℕ) → AreRead read before number []
none_read read before number = record { each = λ k d lt. absurd (omega (arith, lt)) }

more_each : {A E : Type 0} (read : List A → ℕ → Result A E) (before : List A) (number : ℕ) (row : A) (rows : List A)
    → read before number ≡ Ok row → AreRead read (before ++ row ∷ []) (number + 1) rows
    → (k : ℕ) (d : A) → k < length (row ∷ rows)
    → read (before ++ take k (row ∷ rows)) (number + k) ≡ Ok (get_or (row ∷ rows) k d)
more_each read before number row rows first more zero d lt =
    let here : number + 0 ≡ number = omega arith in
    rw (append-nil before, here) first
more_each read before number row rows first more (suc k) d lt =
    let next : number + 1 + k ≡ number + suc k = omega arith in
    ap (λ front. read front (number + suc k)) (sym (append_assoc before (row ∷ []) (take k rows)))
    ∙ ap (read ((before ++ row ∷ []) ++ take k rows)) (sym next) ∙ more.each k d (omega (arith, lt))

more_read : {A E : Type 0} (read : List A → ℕ → Result A E) (before : List A) (number : ℕ) (row : A) (rows : List A)
    → read before number ≡ Ok row → AreRead read (before ++ row ∷ []) (number + 1) rows
    → AreRead read before number (row ∷ rows)
more_read read before number row rows first more =
    record { each = λ k d lt. more_each read before number row rows first more k d lt }

pub rows_of : {A E : Type 0} (read : List A → ℕ → Result A E) (count : ℕ) (before : List A) (number : ℕ) (total : List A)
    → in_turn read before count number ≡ Ok total → ReadsRows read before count number total
unfolding in_turn through
rows_of read zero before number total h = record {
  rows = [];
  whole = let same : before ≡ total = cc in sym same ∙ sym (append-nil before);
  counted = refl;
  are = none_read read before number;
}
rows_of read (suc count) before number total h =
    let f = follows (pushing read before number) (λ now. through (pushing read) now count (number + 1)) total h in
    let row = follows (read before number) (λ row. Ok (before ++ row ∷ [])) f.given f.first in
    let pushed : before ++ row.given ∷ [] ≡ f.given = let h = row.behind in cc in
    let more = rows_of read count (before ++ row.given ∷ []) (number + 1) total (rw (← pushed) at f.behind) in
    record {
      rows = row.given ∷ more.rows;
      whole = more.whole ∙ append_assoc before (row.given ∷ []) more.rows;
      counted = ap suc more.counted;
      are = more_read read before number row.given more.rows row.first more.are;
    }

pub in_turn_of : {A E : Type 0} (read : List A → ℕ → Result A E) (rows : List A) (before : List A) (number : ℕ)
    → AreRead read before number rows → in_turn read before (length rows) number ≡ Ok (before ++ rows)
unfolding in_turn through
in_turn_of read [] before number are = ap Ok (sym (append-nil before))
in_turn_of read (row ∷ rows) before number are =
    let first : read before number ≡ Ok row =
    ap (λ front. read front number) (sym (append-nil before))
    ∙ ap (read (before ++ [])) (let e : number ≡ number + 0 = omega arith in e) ∙ are.each 0 row (omega arith) in
    let more : in_turn read (before ++ row ∷ []) (length rows) (number + 1) ≡ Ok ((before ++ row ∷ []) ++ rows) =
    in_turn_of read rows (before ++ row ∷ []) (number + 1) (record {
      each = λ k d lt.
          let next : number + 1 + k ≡ number + suc k = omega arith in
          ap (λ front. read front (number + 1 + k)) (append_assoc before (row ∷ []) (take k rows))
          ∙ ap (read (before ++ (row ∷ take k rows))) next ∙ are.each (suc k) d (omega (arith, lt));
    }) in
    rw first (more ∙ ap Ok (append_assoc before (row ∷ []) rows))
