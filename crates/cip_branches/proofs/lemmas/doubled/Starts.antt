-- Spheres of branches that are doubled.
use Rattle.std.proofs.Common.{◌≡◌, ◌<◌, ◌≤◌, ◌+◌, ◌-◌, ◌++◌, ◌∷◌, ◌⊎◌, [], ℕ, zero, suc, List, length, map, take, slice_index, refl, sym, ap, ◌∙◌, arith, inl, inr}
use Rattle.std.specs.List.{AllByRecursion, range_with_len}
use Rattle.std.proofs.lemmas.Bool.{cases_lt}
use Rattle.std.proofs.lemmas.List.{length-append, length-map, length-take-le, get_or-map, get_or_append_left, get_or-append-add, get_or-take, get_or_past}
use Rattle.cip_branches.specs.Deciding.{Branched, AreFollowed}
use Rattle.cip_partition.specs.Rows.{number_in, AreClassed}
use Rattle.cip_branches.specs.Turning.{in_sphere}
use Rattle.cip_branches.specs.Twins.{kept_spheres, MayDouble}
use Rattle.cip_partition.specs.Twins.{moved_on, halves, twice}
use Rattle.cip_partition.proofs.lemmas.ClassInSphere.{place_high}
use Rattle.cip_partition.proofs.lemmas.TwinLists.{IsOfPair, in_first, in_second, in_front, in_back, moved_low, twice_is, of_pair, pair_first, pair_second}
use Rattle.cip_partition.proofs.lemmas.TwinPlaces.{half_low, half_high}
use Rattle.cip_branches.proofs.lemmas.doubled.Words.{doubled}

range_moved : (by first count : ℕ) → range_with_len (by + first) count ≡ map (λ k. by + k) (range_with_len first count)
range_moved by first zero = refl
range_moved by first (suc count) =
    let next : by + first + 1 ≡ by + (first + 1) = omega arith in
    ap (λ k. (by + first) ∷ range_with_len k count) next
    ∙ ap (λ ks. (by + first) ∷ ks) (range_moved by (first + 1) count)

-- a place of a sphere, and whether it or its copy is meant
pub record IsTwinIn (from : Branched) (t x : ℕ) : Type 0 where
  pub place : ℕ
  pub at : in_sphere from.layers.ranked.rows from.layers.starts t place
  pub inner : t < kept_spheres from.last (length from.layers.place_tree.place_parents)
  pub low : place < length from.layers.place_tree.place_parents
  pub which : (x ≡ place) ⊎ (x ≡ length from.layers.place_tree.place_parents + place)

module _ (room : ℕ) (from : Branched) (followed : AreFollowed from) (may : MayDouble from) where
  open doubled room from use {count, rows, numbers, starts, At, kids, kept}
  open doubled room from use {twins, new_rows, new_numbers, new_starts, new_kids}

  -- where a sphere has no place, none further out has any
  level : (more t : ℕ) → t + more ≡ suc from.last → ((place : ℕ) → At t place → ⊥) → slice_index starts t ≡ length rows
  level zero t e none = let here : t ≡ suc from.last = omega (arith, e) in
      ap (slice_index starts) here ∙ followed.ranked.ends
  level (suc more) t e none = elim (cases_lt (slice_index starts t) (slice_index starts (suc t))) [
    | inl lt ↦ absurd (none (slice_index rows (slice_index starts t)) (record {
      row = slice_index starts t;
      low = omega arith;
      high = lt;
      here = refl;
    }))
    | inr ge ↦
        let rise = followed.ranked.spheres.rise t (omega (arith, e)) in
        let same : slice_index starts t ≡ slice_index starts (suc t) = omega (arith, rise, ge) in
        same ∙ level more (suc t) (omega (arith, e)) (λ place p.
        let within = followed.ranked.spheres.ends (suc t) p.row p.low p.high in
        none (slice_index from.layers.place_tree.place_parents place) (followed.ranked.spheres.parent_place t place (omega (arith, within)) p))
  ]

  below_rows : (t : ℕ) → t ≤ suc from.last → slice_index starts t ≤ length rows
  below_rows t le = elim (cases_lt t (suc from.last)) [
    | inl lt ↦
        let rise = followed.ranked.spheres.rise t (omega (arith, lt)) in
        let within = followed.ranked.spheres.within t (omega (arith, lt)) in
        omega (arith, rise, within)
    | inr ge ↦
        let here : t ≡ suc from.last = omega (arith, le, ge) in
        let at_end = ap (slice_index starts) here ∙ followed.ranked.ends in
        omega (arith, at_end)
  ]

  -- spheres with places have as many rows before them as spheres
  reached : (t : ℕ) → t ≤ suc from.last → (t ≤ slice_index starts t) ⊎ (slice_index starts t ≡ length rows)
  reached zero le = inl (omega arith)
  reached (suc t) le =
      let rise = followed.ranked.spheres.rise t (omega (arith, le)) in
      let below = below_rows (suc t) le in
      elim (cases_lt (slice_index starts t) (slice_index starts (suc t))) [
        | inl lt ↦ elim (reached t (omega (arith, le))) [
          | inl before ↦ inl (omega (arith, before, lt))
          | inr done ↦ inr (omega (arith, done, rise, below))
        ]
        | inr ge ↦
            let none : (place : ℕ) → At t place → ⊥ =
            λ place p. let low = p.low in let high = p.high in absurd (omega (arith, low, high, ge)) in
            let done = level (suc from.last - t) t (omega (arith, le)) none in
            inr (omega (arith, done, rise, below))
      ]

  pub kept_at_most : kept ≤ suc from.last
  kept_at_most = grind arith

  -- after n spheres there are no places
  pub none_behind : slice_index starts kept ≡ length rows
  none_behind = elim (cases_lt from.last count) [
    | inl lt ↦
        let here : kept ≡ suc from.last = grind arith in
        ap (slice_index starts) here ∙ followed.ranked.ends
    | inr ge ↦
        let here : kept ≡ count = grind arith in
        let below = below_rows kept kept_at_most in
        elim (reached kept kept_at_most) [
          | inl far ↦ omega (arith, far, here, may.rows_len, below)
          | inr done ↦ done
        ]
  ]

  kept_starts : length (map (twice count) (take (kept + 1) starts)) ≡ kept + 1
  kept_starts =
      let all : length (map (twice count) (take (kept + 1) starts)) ≡ length (take (kept + 1) starts) = simp
      length-map in
      let most = kept_at_most in
      all ∙ length-take-le (kept + 1) starts (omega (arith, followed.ranked.count, most))

  -- spheres begin at twice the rows
  pub start_at : (t : ℕ) → t ≤ kept → slice_index new_starts t ≡ slice_index starts t + slice_index starts t
  start_at t le =
      let len = kept_starts in
      let most = kept_at_most in
      let taken = length-take-le (kept + 1) starts (omega (arith, followed.ranked.count, most)) in
      let below = below_rows t (omega (arith, le, most)) in
      get_or_append_left (map (twice count) (take (kept + 1) starts)) ((length rows + length rows) ∷ []) 0 t
      (omega (arith, le, len))
      ∙ get_or-map (twice count) (take (kept + 1) starts) t 0 0 (omega (arith, le, taken))
      ∙ ap (twice count) (get_or-take (kept + 1) starts t 0 (omega (arith, le)))
      ∙ twice_is count (slice_index starts t) (omega (arith, below, may.rows_len))

  pub start_past : slice_index new_starts (suc kept) ≡ length rows + length rows
  start_past =
      let len = kept_starts in
      let place : suc kept ≡ length (map (twice count) (take (kept + 1) starts)) + 0 = omega (arith, len) in
      ap (slice_index new_starts) place
      ∙ get_or-append-add (map (twice count) (take (kept + 1) starts)) ((length rows + length rows) ∷ []) 0 0

  pub starts_len : length new_starts ≡ kept + 2
  starts_len =
      let len = kept_starts in
      let all = length-append (map (twice count) (take (kept + 1) starts)) ((length rows + length rows) ∷ []) in
      omega (arith, len, all)

  start_none : (t : ℕ) → suc kept < t → slice_index new_starts t ≡ 0
  start_none t lt = let len = starts_len in get_or_past new_starts t 0 (omega (arith, len, lt))

  -- the sphere after those that are kept is empty, and there is none further out
  pub none_at : (t row : ℕ) → kept ≤ t → slice_index new_starts t ≤ row → row < slice_index new_starts (suc t) → ⊥
  none_at t row le low high = elim (cases_lt kept t) [
    | inl lt ↦ let none = start_none (suc t) (omega (arith, lt)) in omega (arith, none, high)
    | inr ge ↦
        let here : t ≡ kept = omega (arith, le, ge) in
        let begin = ap (slice_index new_starts) here ∙ start_at kept (omega arith) in
        let past = ap (λ u. slice_index new_starts (suc u)) here ∙ start_past in
        let all = none_behind in
        omega (arith, begin, past, all, low, high)
  ]

  number_low : (p : ℕ) → p < count → slice_index new_numbers p ≡ twice count (slice_index numbers p)
  number_low p lt = let len = may.numbers_len in in_first (twice count) (twice count) numbers p (omega (arith, lt, len))

  number_high : (p : ℕ) → p < count → slice_index new_numbers (count + p) ≡ twice count (slice_index numbers p)
  number_high p lt = let len = may.numbers_len in
      in_second (twice count) (twice count) numbers p (omega (arith, lt, len)) count len

  pub place_below : (t place : ℕ) → At t place → place < count
  place_below t place p =
      let le = followed.ranked.spheres.ends t p.row p.low p.high in
      let within = followed.ranked.spheres.within t le in
      let row_below = may.below p.row (omega (arith, within, p.high)) in
      omega (arith, p.here, row_below)

  number_below : (t place : ℕ) → At t place → slice_index numbers place ≤ count
  number_below t place p =
      let le = followed.ranked.spheres.ends t p.row p.low p.high in
      let within = followed.ranked.spheres.within t le in
      let high = place_high rows numbers (slice_index starts t) (slice_index starts (suc t))
      (followed.ranked.spheres.classed t le) place p in
      omega (arith, high, within, may.rows_len)

  -- both places have twice the number
  pub number_first : (t place : ℕ) → At t place
      → slice_index new_numbers place ≡ slice_index numbers place + slice_index numbers place
  number_first t place p = number_low place (place_below t place p)
      ∙ twice_is count (slice_index numbers place) (number_below t place p)

  pub number_second : (t place : ℕ) → At t place
      → slice_index new_numbers (count + place) ≡ slice_index numbers place + slice_index numbers place
  number_second t place p = number_high place (place_below t place p)
      ∙ twice_is count (slice_index numbers place) (number_below t place p)

  pub is_inner : (t place : ℕ) → At t place → t < kept
  is_inner t place p = elim (cases_lt t kept) [
    | inl lt ↦ lt
    | inr ge ↦
        let le = followed.ranked.spheres.ends t p.row p.low p.high in
        let within = followed.ranked.spheres.within t le in
        let all = none_behind in
        let rise = later t ge le in
        absurd (omega (arith, rise, p.low, p.high, within, all))
  ]
    where
      rising : (more : ℕ) → kept + more ≤ suc from.last → length rows ≤ slice_index starts (kept + more)
      rising zero le =
          let none : kept + 0 ≡ kept = omega arith in
          let here = ap (slice_index starts) none ∙ none_behind in
          omega (arith, here)
      rising (suc more) le =
          let next : kept + suc more ≡ suc (kept + more) = omega arith in
          let before = rising more (omega (arith, le)) in
          let rise = followed.ranked.spheres.rise (kept + more) (omega (arith, le)) in
          let here = ap (slice_index starts) next in
          omega (arith, before, rise, here)

      later : (u : ℕ) → kept ≤ u → u ≤ from.last → length rows ≤ slice_index starts u
      later u ge le =
          let sum : kept + (u - kept) ≡ u = omega (arith, ge) in
          let far = rising (u - kept) (omega (arith, ge, le)) in
          let here = ap (slice_index starts) sum in
          omega (arith, far, here)

  pub first_in : (t place : ℕ) → At t place → in_sphere new_rows new_starts t place
  first_in t place p =
      let inner = is_inner t place p in
      let low = p.low in
      let high = p.high in
      let begin = start_at t (omega (arith, inner)) in
      let past = start_at (suc t) (omega (arith, inner)) in
      record {
        row = p.row + p.row;
        low = omega (arith, low, begin);
        high = omega (arith, high, past);
        here = pair_first count rows p.row ∙ p.here;
      }

  pub second_in : (t place : ℕ) → At t place → in_sphere new_rows new_starts t (count + place)
  second_in t place p =
      let inner = is_inner t place p in
      let low = p.low in
      let high = p.high in
      let begin = start_at t (omega (arith, inner)) in
      let past = start_at (suc t) (omega (arith, inner)) in
      let le = followed.ranked.spheres.ends t p.row p.low p.high in
      let within = followed.ranked.spheres.within t le in
      record {
        row = p.row + p.row + 1;
        low = omega (arith, low, begin);
        high = omega (arith, high, past);
        here = pair_second count rows p.row (omega (arith, high, within)) ∙ ap (λ k. count + k) p.here;
      }

  pub is_twin_in : (t x : ℕ) → in_sphere new_rows new_starts t x → IsTwinIn from t x
  is_twin_in t x p = elim (cases_lt t kept) [
    | inl inner ↦
        let pair = of_pair p.row in
        let low = p.low in
        let high = p.high in
        let most = kept_at_most in
        let begin = start_at t (omega (arith, inner)) in
        let past = start_at (suc t) (omega (arith, inner)) in
        let within = followed.ranked.spheres.within t (omega (arith, inner, most)) in
        let first : pair.row + pair.row ≤ p.row =
        elim pair.which [ inl e ↦ omega (arith, e) | inr e ↦ omega (arith, e) ] in
        let second : p.row ≤ pair.row + pair.row + 1 =
        elim pair.which [ inl e ↦ omega (arith, e) | inr e ↦ omega (arith, e) ] in
        let at : At t (slice_index rows pair.row) = record {
          row = pair.row;
          low = omega (arith, low, begin, second);
          high = omega (arith, high, past, first);
          here = refl;
        } in
        elim pair.which [
          | inl e ↦
              record {
                place = slice_index rows pair.row;
                at = at;
                inner = inner;
                low = place_below t (slice_index rows pair.row) at;
                which = inl (sym p.here ∙ ap (slice_index new_rows) e ∙ pair_first count rows pair.row);
              }
          | inr e ↦
              record {
                place = slice_index rows pair.row;
                at = at;
                inner = inner;
                low = place_below t (slice_index rows pair.row) at;
                which = inr (sym p.here ∙ ap (slice_index new_rows) e
                    ∙ pair_second count rows pair.row (omega (arith, at.high, within)));
              }
        ]
    | inr ge ↦ absurd (none_at t p.row ge p.low p.high)
  ]

  -- children come after each other as those of the place do
  pub kids_first : (p : ℕ) → p < count → new_kids p ≡ kids p
  kids_first p lt =
      let fits = may.family.within p lt in
      let some = in_front from.layers.place_tree.counts p (omega (arith, lt, may.family.counts_len)) in
      let first = half_low from.layers.place_tree may.family from.layers.place_tree.firsts may.family.firsts_len p lt in
      elim (cases_lt (slice_index from.layers.place_tree.firsts p) count) [
        | inl low ↦
            let here : moved_on 0 count (slice_index from.layers.place_tree.firsts p) ≡ slice_index from.layers.place_tree.firsts p =
            moved_low 0 count (slice_index from.layers.place_tree.firsts p) low ∙ omega arith in
            ap (λ k. range_with_len k (slice_index (from.layers.place_tree.counts ++ from.layers.place_tree.counts) p)) (first ∙ here)
            ∙ ap (range_with_len (slice_index from.layers.place_tree.firsts p)) some
        | inr high ↦
            let none : slice_index from.layers.place_tree.counts p ≡ 0 = omega (arith, fits, high) in
            ap (range_with_len (slice_index (halves count from.layers.place_tree.firsts) p)) (some ∙ none)
            ∙ sym (ap (range_with_len (slice_index from.layers.place_tree.firsts p)) none)
      ]

  pub kids_second : (p : ℕ) → p < count → new_kids (count + p) ≡ map (λ k. count + k) (kids p)
  kids_second p lt =
      let counts = may.family.counts_len in
      let fits = may.family.within p lt in
      let some = in_back from.layers.place_tree.counts p (omega (arith, lt, counts)) count counts in
      let first = half_high from.layers.place_tree may.family from.layers.place_tree.firsts may.family.firsts_len p lt in
      elim (cases_lt (slice_index from.layers.place_tree.firsts p) count) [
        | inl low ↦
            let here = moved_low count count (slice_index from.layers.place_tree.firsts p) low in
            ap (λ k. range_with_len k (slice_index (from.layers.place_tree.counts ++ from.layers.place_tree.counts) (count + p)))
            (first ∙ here)
            ∙ ap (range_with_len (count + slice_index from.layers.place_tree.firsts p)) some
            ∙ range_moved count (slice_index from.layers.place_tree.firsts p) (slice_index from.layers.place_tree.counts p)
        | inr high ↦
            let none : slice_index from.layers.place_tree.counts p ≡ 0 = omega (arith, fits, high) in
            ap (range_with_len (slice_index (halves count from.layers.place_tree.firsts) (count + p))) (some ∙ none)
            ∙ sym (ap (λ n. map (λ k. count + k) (range_with_len (slice_index from.layers.place_tree.firsts p) n)) none)
      ]

  pub up_first : (t p : ℕ) → t < from.last → At (suc t) p
      → slice_index twins.layers.place_tree.place_parents p ≡ slice_index from.layers.place_tree.place_parents p
  up_first t p lt at =
      let low = place_below t (slice_index from.layers.place_tree.place_parents p) (followed.ranked.spheres.parent_place t p lt at) in
      half_low from.layers.place_tree may.family from.layers.place_tree.place_parents refl p (place_below (suc t) p at)
      ∙ moved_low 0 count (slice_index from.layers.place_tree.place_parents p) low ∙ omega arith

  pub up_second : (t p : ℕ) → t < from.last → At (suc t) p
      → slice_index twins.layers.place_tree.place_parents (count + p) ≡ count + slice_index from.layers.place_tree.place_parents p
  up_second t p lt at =
      let low = place_below t (slice_index from.layers.place_tree.place_parents p) (followed.ranked.spheres.parent_place t p lt at) in
      half_high from.layers.place_tree may.family from.layers.place_tree.place_parents refl p (place_below (suc t) p at)
      ∙ moved_low count count (slice_index from.layers.place_tree.place_parents p) low

  -- the places of the last sphere have no children
  pub no_kids : (place : ℕ) → At from.last place → kids place ≡ []
  no_kids place p =
      let places = followed.places from.unresolved in
      ap (range_with_len (slice_index from.layers.place_tree.firsts place))
      (places.bare place (places.low place p) (places.high place p))

  pub all_moved : (P Q : ℕ → Type 0) → ((k : ℕ) → P k → Q (count + k)) → (ks : List ℕ) → AllByRecursion P ks
      → AllByRecursion Q (map (λ k. count + k) ks)
  all_moved P Q moves [] all = tt
  all_moved P Q moves (k ∷ ks) all = (moves k all.0, all_moved P Q moves ks all.1)

  pub classed : (t : ℕ) → t < kept
      → AreClassed new_rows new_numbers (slice_index new_starts t) (slice_index new_starts (suc t))
  classed t inner = record {
    head = λ some.
        let at = place t (slice_index starts t) (omega arith) (omega (arith, some, begin, past)) in
        let first = was.head (omega (arith, some, begin, past)) in
        ap (λ k. slice_index new_numbers (slice_index new_rows k)) begin
        ∙ ap (slice_index new_numbers) (pair_first count rows (slice_index starts t))
        ∙ number_first t (slice_index rows (slice_index starts t)) at
        ∙ ap (λ k. k + k) first ∙ sym begin;
    next = λ row low high. next row (of_pair row) low high;
  }
    where
      most : kept ≤ suc from.last
      most = kept_at_most

      was : AreClassed rows numbers (slice_index starts t) (slice_index starts (suc t))
      was = followed.ranked.spheres.classed t (omega (arith, inner, most))

      begin : slice_index new_starts t ≡ slice_index starts t + slice_index starts t
      begin = start_at t (omega (arith, inner))

      past : slice_index new_starts (suc t) ≡ slice_index starts (suc t) + slice_index starts (suc t)
      past = start_at (suc t) (omega (arith, inner))

      within : slice_index starts (suc t) ≤ length rows
      within = followed.ranked.spheres.within t (omega (arith, inner, most))

      place : (u k : ℕ) → slice_index starts u ≤ k → k < slice_index starts (suc u) → At u (slice_index rows k)
      place u k low high = record { row = k; low = low; high = high; here = refl }

      one : (k : ℕ) → slice_index starts t ≤ k → k < slice_index starts (suc t)
          → number_in new_rows new_numbers (k + k) ≡ number_in rows numbers k + number_in rows numbers k
      one k low high = ap (slice_index new_numbers) (pair_first count rows k)
          ∙ number_first t (slice_index rows k) (place t k low high)

      other : (k : ℕ) → slice_index starts t ≤ k → k < slice_index starts (suc t)
          → number_in new_rows new_numbers (k + k + 1) ≡ number_in rows numbers k + number_in rows numbers k
      other k low high =
          let w = within in
          ap (slice_index new_numbers) (pair_second count rows k (omega (arith, high, w)))
          ∙ number_second t (slice_index rows k) (place t k low high)

      next : (row : ℕ) → IsOfPair row → slice_index new_starts t ≤ row → row + 1 < slice_index new_starts (suc t)
          → (number_in new_rows new_numbers (row + 1) ≡ number_in new_rows new_numbers row)
          ⊎ (number_in new_rows new_numbers (row + 1) ≡ row + 1)
      next row pair low high =
          let b = begin in
          let e = past in
          elim pair.which [
            | inl even ↦
                let at_row = ap (number_in new_rows new_numbers) even
                ∙ one pair.row (omega (arith, even, low, b)) (omega (arith, even, high, e)) in
                let at_next = ap (λ k. number_in new_rows new_numbers (k + 1)) even
                ∙ other pair.row (omega (arith, even, low, b)) (omega (arith, even, high, e)) in
                inl (at_next ∙ sym at_row)
            | inr odd ↦
                let at_row = ap (number_in new_rows new_numbers) odd
                ∙ other pair.row (omega (arith, odd, low, b)) (omega (arith, odd, high, e)) in
                let sum : row + 1 ≡ (pair.row + 1) + (pair.row + 1) = omega (arith, odd) in
                let at_next = ap (number_in new_rows new_numbers) sum
                ∙ one (pair.row + 1) (omega (arith, odd, low, b)) (omega (arith, odd, high, e)) in
                elim (was.next pair.row (omega (arith, odd, low, b)) (omega (arith, odd, high, e))) [
                  | inl same ↦ inl (at_next ∙ ap (λ k. k + k) same ∙ sym at_row)
                  | inr begins ↦ inr (at_next ∙ ap (λ k. k + k) begins ∙ sym sum)
                ]
          ]
