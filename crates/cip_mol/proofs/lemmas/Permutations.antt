-- The places of a permutation: each number below theirs is at one of them, and is found there.
use Rattle.std.proofs.Common.{◌≡◌, ◌<◌, ◌≤◌, ◌+◌, ◌==◌, ℕ, zero, suc, Bool, true, false, cond, List, [], ◌∷◌, length, get_or, count_by, refl, sym, ap, subst, ◌∙◌, eqb-true, eq-eqb, inl, inr, arith}
use Rattle.std.specs.List.{range_with_len}
use Rattle.std.proofs.lemmas.Bool.{ne_eqb, cases_lt}
use Rattle.std.proofs.lemmas.List.Elements.{All-from_get_or, All-get_or}
use Rattle.std.proofs.lemmas.List.FromFn.{get_or-range_with_len, length-range_with_len}
use Rattle.std.proofs.lemmas.List.Sorted.{All-permutation, IsPermutation-sym, length_permutation, sum_by-IsPermutation}
use Rattle.std.proofs.lemmas.List.Sums.{sum_by-cons}
use Rattle.cip_mol.specs.Permutations.{ArePlaces}
use Rattle.cip_mol.specs.RenumberedDrawing.{index_of}

-- how often a number is in a list
abbrev pub times : ℕ → List ℕ → ℕ
times n ns = count_by (λ m. m == n) ns

abbrev one_if : Bool → ℕ
one_if b = cond b 1 0

times-cons : (n m : ℕ) (ms : List ℕ) → times n (m ∷ ms) ≡ one_if (m == n) + times n ms
times-cons n m ms = sum_by-cons (λ k. cond (k == n) 1 0) m ms

-- a number that is found is there
pub at_index : (ns : List ℕ) (n d : ℕ) → index_of n ns < length ns → get_or ns (index_of n ns) d ≡ n
at_index [] n d lt = absurd (omega (arith, lt))
at_index (m ∷ ms) n d lt = by (m == n) refl lt (at_index ms n d)
  where
    by : (b : Bool) → (m == n) ≡ b → cond b 0 (index_of n ms + 1) < length (m ∷ ms)
        → (index_of n ms < length ms → get_or ms (index_of n ms) d ≡ n)
        → get_or (m ∷ ms) (cond b 0 (index_of n ms + 1)) d ≡ n
    by true e lt rest = eqb-true m n e
    by false e lt rest =
        ap (λ i. get_or (m ∷ ms) i d) (let next : index_of n ms + 1 ≡ suc (index_of n ms) = omega arith in next)
        ∙ rest (omega (arith, lt))

-- and nowhere before
index-le : (ns : List ℕ) (k d : ℕ) → k < length ns → index_of (get_or ns k d) ns ≤ k
index-le [] k d lt = absurd (omega (arith, lt))
index-le (n ∷ ns) zero d lt =
    let first : index_of n (n ∷ ns) ≡ 0 = ap (λ b. cond b 0 (index_of n ns + 1)) (eq-eqb n n refl) in
    omega (arith, first)
index-le (n ∷ ns) (suc k) d lt = by (n == get_or ns k d) (index-le ns k d (omega (arith, lt)))
  where
    by : (b : Bool) → index_of (get_or ns k d) ns ≤ k → cond b 0 (index_of (get_or ns k d) ns + 1) ≤ suc k
    by true le = omega arith
    by false le = omega (arith, le)

-- a number that is in a list is found
index-lt : (n : ℕ) (ns : List ℕ) → 1 ≤ times n ns → index_of n ns < length ns
index-lt n [] some = absurd (omega (arith, some))
index-lt n (m ∷ ms) some = by (m == n) (subst (λ count. 1 ≤ count) (times-cons n m ms) some) (index-lt n ms)
  where
    by : (b : Bool) → 1 ≤ cond b 1 0 + times n ms → (1 ≤ times n ms → index_of n ms < length ms)
        → cond b 0 (index_of n ms + 1) < length (m ∷ ms)
    by true some rest = omega arith
    by false some rest = let within = rest (omega (arith, some)) in omega (arith, within)

stands : (ns : List ℕ) (k d : ℕ) → k < length ns → 1 ≤ times (get_or ns k d) ns
stands [] k d lt = absurd (omega (arith, lt))
stands (n ∷ ns) zero d lt =
    let more = times-cons n n ns in
    let here : one_if (n == n) ≡ 1 = ap one_if (eq-eqb n n refl) in
    omega (arith, more, here)
stands (n ∷ ns) (suc k) d lt =
    let more = times-cons (get_or ns k d) n ns in
    let rest = stands ns k d (omega (arith, lt)) in
    omega (arith, more, rest)

-- a number at two places stands twice
twice : (ns : List ℕ) (i k d : ℕ) → i < k → k < length ns → get_or ns i d ≡ get_or ns k d
    → 2 ≤ times (get_or ns k d) ns
twice [] i k d before lt e = absurd (omega (arith, lt))
twice (n ∷ ns) i zero d before lt e = absurd (omega (arith, before))
twice (n ∷ ns) zero (suc k) d before lt e =
    let more = times-cons (get_or ns k d) n ns in
    let here : one_if (n == get_or ns k d) ≡ 1 = ap one_if (eq-eqb n (get_or ns k d) e) in
    let rest = stands ns k d (omega (arith, lt)) in
    omega (arith, more, here, rest)
twice (n ∷ ns) (suc i) (suc k) d before lt e =
    let more = times-cons (get_or ns k d) n ns in
    let rest = twice ns i k d (omega (arith, before)) (omega (arith, lt)) e in
    omega (arith, more, rest)

none_below : (n start count : ℕ) → n < start → times n (range_with_len start count) ≡ 0
none_below n start zero lt = refl
none_below n start (suc count) lt =
    let more = times-cons n start (range_with_len (start + 1) count) in
    let here : one_if (start == n) ≡ 0 =
    ap one_if (ne_eqb start n (λ e. absurd (omega (arith, lt, e)))) in
    let rest = none_below n (start + 1) count (omega (arith, lt)) in
    omega (arith, more, here, rest)

-- each number of a range is there once
once : (n start count : ℕ) → start ≤ n → n < start + count → times n (range_with_len start count) ≡ 1
once n start zero le lt = absurd (omega (arith, le, lt))
once n start (suc count) le lt =
    let more = times-cons n start (range_with_len (start + 1) count) in
    elim (cases_lt start n) [
      | inl above ↦
          let here : one_if (start == n) ≡ 0 =
          ap one_if (ne_eqb start n (λ e. absurd (omega (arith, above, e)))) in
          let rest = once n (start + 1) count (omega (arith, above)) (omega (arith, lt)) in
          omega (arith, more, here, rest)
      | inr behind ↦
          let same : start ≡ n = omega (arith, le, behind) in
          let here : one_if (start == n) ≡ 1 = ap one_if (eq-eqb start n same) in
          let rest = none_below n (start + 1) count (omega (arith, same)) in
          omega (arith, more, here, rest)
    ]

module _ (count : ℕ) (places : List ℕ) (p : ArePlaces count places) where
  pub as_many : length places ≡ count
  as_many =
      let e = length_permutation places (range_with_len 0 count) p in
      let f = length-range_with_len 0 count in omega (arith, e, f)

  pub place_below : (k d : ℕ) → k < count → get_or places k d < count
  place_below k d lt =
      All-get_or (λ n. n < count) places k d (let long = as_many in omega (arith, lt, long))
      (All-permutation (λ n. n < count) (range_with_len 0 count) places
      (IsPermutation-sym places (range_with_len 0 count) p)
      (All-from_get_or (λ n. n < count) (range_with_len 0 count) 0 (λ i within.
      let inside : i < count = let long = length-range_with_len 0 count in omega (arith, within, long) in
      let is = get_or-range_with_len 0 count i 0 inside in omega (arith, inside, is))))

  stands_once : (n : ℕ) → n < count → times n places ≡ 1
  stands_once n lt =
      sym (sum_by-IsPermutation (λ m. cond (m == n) 1 0) places (range_with_len 0 count) p)
      ∙ once n 0 count (omega arith) (omega (arith, lt))

  -- each number below theirs is found
  pub index_below : (n : ℕ) → n < count → index_of n places < count
  index_below n lt =
      let found = index-lt n places (let one = stands_once n lt in omega (arith, one)) in
      let long = as_many in omega (arith, found, long)

  pub place_of_index : (n d : ℕ) → n < count → get_or places (index_of n places) d ≡ n
  place_of_index n d lt =
      at_index places n d (let found = index_below n lt in let long = as_many in omega (arith, found, long))

  -- what is at a place is found there
  pub index_of_place : (k d : ℕ) → k < count → index_of (get_or places k d) places ≡ k
  index_of_place k d lt =
      let inside : k < length places = let long = as_many in omega (arith, lt, long) in
      let n = get_or places k d in
      let i = index_of n places in
      let low : i ≤ k = index-le places k d inside in
      let below : n < count = place_below k d lt in
      elim (cases_lt i k) [
        | inl before ↦
            let two = twice places i k d before inside (place_of_index n d below) in
            let one = stands_once n below in
            absurd (omega (arith, two, one))
        | inr behind ↦ omega (arith, low, behind)
      ]
