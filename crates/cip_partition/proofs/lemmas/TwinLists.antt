-- Lists of places and their copies, and what is in them.
use Rattle.std.proofs.Common.{◌≡◌, ◌<◌, ◌≤◌, ◌+◌, ◌-◌, ◌++◌, ◌∷◌, ◌^◌, ◌⊎◌, [], ℕ, zero, suc, List, length, map, take, get_or, slice_index, refl, sym, ap, ◌∙◌, arith, inl, inr}
use Rattle.std.proofs.lemmas.Bool.{cases_lt}
use Rattle.std.proofs.lemmas.Bool.Decides.{nat_tests}
use Rattle.std.proofs.lemmas.List.{length-append, length-map, get_or-map, get_or_append_left, get_or-append-add}
use Rattle.std.specs.List.{range_with_len}
use Rattle.cip_partition.specs.Twins.{moved_on, twin_place, twins_from, halves, twice, pairs}
use Rattle.cip_partition.specs.declared.places.place.Place.{Place}

-- where the doubles of n find room, they are few
pub doubles_few : {count len room bound : ℕ} → count ≡ len → len + len ≤ bound → room ≡ bound → room < 2 ^ 32
    → count + count < 2 ^ 32
doubles_few is fits same few = omega (arith, is, fits, same, few)

pub pairs_more : (count : ℕ) (places : List ℕ) (i d : ℕ) → i < length places
    → pairs count (take (i + 1) places)
    ≡ pairs count (take i places) ++ get_or places i d ∷ (count + get_or places i d) ∷ []
pairs_more count [] i d h = absurd (omega arith)
pairs_more count (p ∷ places) zero d h = refl
pairs_more count (p ∷ places) (suc i) d h =
    let next : suc i + 1 ≡ suc (i + 1) = omega arith in
    ap (λ k. pairs count (take k (p ∷ places))) next
    ∙ ap (λ ps. p ∷ (count + p) ∷ ps) (pairs_more count places i d (omega arith))

pub pairs_length : (count : ℕ) (places : List ℕ) → length (pairs count places) ≡ length places + length places
pairs_length count [] = refl
pairs_length count (p ∷ places) = let rest = pairs_length count places in omega (arith, rest)

pub moved_low : (by count n : ℕ) → n < count → moved_on by count n ≡ by + n
moved_low by count n lt = grind (arith, nat_tests)

pub moved_high : (by count n : ℕ) → count ≤ n → moved_on by count n ≡ count + count
moved_high by count n le = grind (arith, nat_tests)

twice_high : (count n : ℕ) → count ≤ n → twice count n ≡ count + count
twice_high count n le = grind (arith, nat_tests)

twice_low : (count n : ℕ) → n < count → twice count n ≡ n + n
twice_low count n lt = grind (arith, nat_tests)

pub twice_is : (count n : ℕ) → n ≤ count → twice count n ≡ n + n
twice_is count n le = elim (cases_lt n count) [
  | inl lt ↦ twice_low count n lt
  | inr ge ↦ let same : n ≡ count = omega (arith, le, ge) in twice_high count n ge ∙ ap (λ k. k + k) (sym same)
]

pub halves_length : (count : ℕ) (ns : List ℕ) → length (halves count ns) ≡ length ns + length ns
halves_length count ns =
    let both = length-append (map (moved_on 0 count) ns) (map (moved_on count count) ns) in
    let one : length (map (moved_on 0 count) ns) ≡ length ns = simp length-map in
    let two : length (map (moved_on count count) ns) ≡ length ns = simp length-map in
    omega (arith, both, one, two)

module _ (f g : ℕ → ℕ) (ns : List ℕ) (p : ℕ) (lt : p < length ns) where
  pub in_first : slice_index (map f ns ++ map g ns) p ≡ f (slice_index ns p)
  in_first =
      let len : length (map f ns) ≡ length ns = simp length-map in
      get_or_append_left (map f ns) (map g ns) 0 p (omega (arith, len, lt)) ∙ get_or-map f ns p 0 0 lt

  pub in_second : (count : ℕ) → length ns ≡ count → slice_index (map f ns ++ map g ns) (count + p) ≡ g (slice_index ns
      p)
  in_second count e =
      let all : length (map f ns) ≡ length ns = simp length-map in
      let len = all ∙ e in
      ap (λ k. slice_index (map f ns ++ map g ns) (k + p)) (sym len)
      ∙ get_or-append-add (map f ns) (map g ns) p 0 ∙ get_or-map g ns p 0 0 lt

module _ (ns : List ℕ) (p : ℕ) (lt : p < length ns) where
  pub in_front : slice_index (ns ++ ns) p ≡ slice_index ns p
  in_front = get_or_append_left ns ns 0 p lt

  pub in_back : (count : ℕ) → length ns ≡ count → slice_index (ns ++ ns) (count + p) ≡ slice_index ns p
  in_back count e = ap (λ k. slice_index (ns ++ ns) (k + p)) (sym e) ∙ get_or-append-add ns ns p 0

pub pair_first : (count : ℕ) (places : List ℕ) (r : ℕ) → slice_index (pairs count places) (r + r) ≡ slice_index places r
pair_first count [] zero = refl
pair_first count [] (suc r) = refl
pair_first count (p ∷ places) zero = refl
pair_first count (p ∷ places) (suc r) =
    let next : suc r + suc r ≡ suc (suc (r + r)) = omega arith in
    ap (slice_index (pairs count (p ∷ places))) next ∙ pair_first count places r

pub pair_second : (count : ℕ) (places : List ℕ) (r : ℕ) → r < length places
    → slice_index (pairs count places) (r + r + 1) ≡ count + slice_index places r
pair_second count [] r lt = absurd (omega (arith, lt))
pair_second count (p ∷ places) zero lt = refl
pair_second count (p ∷ places) (suc r) lt =
    let next : suc r + suc r + 1 ≡ suc (suc (r + r + 1)) = omega arith in
    ap (slice_index (pairs count (p ∷ places))) next ∙ pair_second count places r (omega (arith, lt))

-- a row is the first or the second one of a pair
pub record IsOfPair (k : ℕ) : Type 0 where
  pub row : ℕ
  pub which : (k ≡ row + row) ⊎ (k ≡ row + row + 1)

pub of_pair : (k : ℕ) → IsOfPair k
of_pair zero = record { row = 0; which = inl refl }
of_pair (suc k) =
    let before = of_pair k in
    elim before.which [
      | inl even ↦ record { row = before.row; which = inr (omega (arith, even)) }
      | inr odd ↦ record { row = suc before.row; which = inl (omega (arith, odd)) }
    ]

-- a place is one of n, or the copy of one
pub record IsTwin (count x : ℕ) : Type 0 where
  pub place : ℕ
  pub low : place < count
  pub which : (x ≡ place) ⊎ (x ≡ count + place)

pub is_twin : (count x : ℕ) → x < count + count → IsTwin count x
is_twin count x lt = elim (cases_lt x count) [
  | inl low ↦ record { place = x; low = low; which = inl refl }
  | inr high ↦ record { place = x - count; low = omega (arith, lt, high); which = inr (omega (arith, high)) }
]

pub twins_length : (node by count : ℕ) (ps : List Place) → length (twins_from node by count ps) ≡ length ps
twins_length node by count [] = refl
twins_length node by count (p ∷ ps) = ap suc (twins_length (node + 1) by count ps)

pub twins_more : (node by count : ℕ) (ps : List Place) (i : ℕ) (d : Place) → i < length ps
    → twins_from node by count (take (i + 1) ps)
    ≡ twins_from node by count (take i ps) ++ twin_place (node + i) by count (get_or ps i d) ∷ []
twins_more node by count [] i d h = absurd (omega arith)
twins_more node by count (p ∷ ps) zero d h =
    let none : node ≡ node + 0 = omega arith in ap (λ n. twin_place n by count p ∷ []) none
twins_more node by count (p ∷ ps) (suc i) d h =
    let next : suc i + 1 ≡ suc (i + 1) = omega arith in
    let shift : node + 1 + i ≡ node + suc i = omega arith in
    ap (λ k. twins_from node by count (take k (p ∷ ps))) next
    ∙ ap (λ ts. twin_place node by count p ∷ ts) (twins_more (node + 1) by count ps i d (omega arith))
    ∙ ap (λ n. twin_place node by count p ∷ (twins_from (node + 1) by count (take i ps)
    ++ twin_place n by count (get_or ps i d) ∷ [])) shift

-- what is known of places moved on
pub moved_nodes : (node by count : ℕ) (ps : List Place) → map (λ (p : Place). p.node) (twins_from node by count ps)
    ≡ range_with_len node (length ps)
moved_nodes node by count [] = refl
moved_nodes node by count (p ∷ ps) = ap (λ ns. node ∷ ns) (moved_nodes (node + 1) by count ps)

pub moved_counts : (node by count : ℕ) (ps : List Place) → map (λ (p : Place). p.count) (twins_from node by count ps)
    ≡ map (λ (p : Place). p.count) ps
moved_counts node by count [] = refl
moved_counts node by count (p ∷ ps) = ap (λ ns. p.count ∷ ns) (moved_counts (node + 1) by count ps)

pub moved_numbers : (f : Place → ℕ) (by count : ℕ)
    → ((node : ℕ) (p : Place) → f (twin_place node by count p) ≡ moved_on by count (f p)) → (node : ℕ) (ps : List Place)
    → map f (twins_from node by count ps) ≡ map (moved_on by count) (map f ps)
moved_numbers f by count each node [] = refl
moved_numbers f by count each node (p ∷ ps) =
    ap (λ n. n ∷ map f (twins_from (node + 1) by count ps)) (each node p)
    ∙ ap (λ ns. moved_on by count (f p) ∷ ns) (moved_numbers f by count each (node + 1) ps)

range_both : (first n m : ℕ) → range_with_len first n ++ range_with_len (first + n) m ≡ range_with_len first (n + m)
range_both first zero m =
    let here : first + 0 ≡ first = omega arith in
    let all : m ≡ 0 + m = omega arith in
    ap (λ k. range_with_len k m) here ∙ ap (range_with_len first) all
range_both first (suc n) m =
    let shift : first + suc n ≡ first + 1 + n = omega arith in
    let all : suc (n + m) ≡ suc n + m = omega arith in
    ap (λ k. first ∷ (range_with_len (first + 1) n ++ range_with_len k m)) shift
    ∙ ap (λ ks. first ∷ ks) (range_both (first + 1) n m) ∙ ap (range_with_len first) all

pub range_twice : (n : ℕ) → range_with_len 0 n ++ range_with_len n n ≡ range_with_len 0 (n + n)
range_twice n =
    let here : n ≡ 0 + n = omega arith in ap (λ k. range_with_len 0 n ++ range_with_len k n) here ∙ range_both 0 n n
