-- Places and their copies in the columns of branches that are doubled.
use Rattle.std.proofs.Common.{◌≡◌, ◌<◌, ◌≤◌, ◌+◌, ◌^◌, ◌++◌, [], ℕ, zero, suc, false, List, length, map, replicate, slice_index, refl, sym, ap, ◌∙◌, subst, arith, inl, inr}
use Rattle.std.specs.List.{range_with_len}
use Rattle.std.proofs.lemmas.Bool.{cases_lt}
use Rattle.std.proofs.lemmas.List.{length-append, length-map, map-append}
use Rattle.std.proofs.lemmas.List.FromFn.{length-range_with_len, get_or-range_with_len}
use Rattle.cip_partition.specs.PlaceTree.{PlaceTree, IsFamily, KeepKin, kin_of}
use Rattle.cip_partition.specs.Parting.{has_flag}
use Rattle.cip_partition.specs.Keys.{AreKeyed}
use Rattle.cip_partition.specs.Ranked.{Ranked, KeepOrder}
use Rattle.cip_partition.specs.ReservedList.{ReservedList}
use Rattle.cip_partition.specs.Twins.{moved_on, halves, twice, pairs, twin_kin, twin_place, twins_from}
use Rattle.cip_partition.specs.declared.places.place.Place.{Place}
use Rattle.cip_partition.proofs.lemmas.TwinLists.{halves_length, in_first, in_second, in_front, in_back, moved_low, moved_high, is_twin, of_pair, pairs_length, pair_first, pair_second}
use Rattle.cip_partition.proofs.lemmas.TwinLists.{moved_nodes, moved_counts, moved_numbers, range_twice, twins_length}

module _ (place_tree : PlaceTree) (family : IsFamily place_tree) where
  abbrev count : ℕ
  count = length place_tree.place_parents

  -- where a number is, among n places
  pub half_low : (ns : List ℕ) → length ns ≡ count → (p : ℕ) → p < count
      → slice_index (halves count ns) p ≡ moved_on 0 count (slice_index ns p)
  half_low ns e p lt = in_first (moved_on 0 count) (moved_on count count) ns p (omega (arith, lt, e))

  pub half_high : (ns : List ℕ) → length ns ≡ count → (p : ℕ) → p < count
      → slice_index (halves count ns) (count + p) ≡ moved_on count count (slice_index ns p)
  half_high ns e p lt = in_second (moved_on 0 count) (moved_on count count) ns p (omega (arith, lt, e)) count e

  within_moved : (by first some : ℕ) → by ≤ count → first + some ≤ count
      → moved_on by count first + some ≤ count + count
  within_moved by first some le fits = elim (cases_lt first count) [
    | inl low ↦ let here = moved_low by count first low in omega (arith, here, le, fits)
    | inr high ↦ let here = moved_high by count first high in omega (arith, here, high, fits)
  ]

  pub twin_family : (room : ℕ) → IsFamily (twin_kin room place_tree)
  twin_family room = record {
    nodes_len = length-range_with_len 0 (count + count) ∙ sym ups_len;
    branches_len = halves_length count place_tree.branches ∙ ap (λ n. n + n) family.branches_len ∙ sym ups_len;
    firsts_len = halves_length count place_tree.firsts ∙ ap (λ n. n + n) family.firsts_len ∙ sym ups_len;
    counts_len = length-append place_tree.counts place_tree.counts ∙ ap (λ n. n + n) family.counts_len ∙ sym ups_len;
    within = λ x lt. within x (omega (arith, lt, ups_len));
  }
    where
      ups_len : length (halves count place_tree.place_parents) ≡ count + count
      ups_len = halves_length count place_tree.place_parents

      within : (x : ℕ) → x < count + count
          → slice_index (halves count place_tree.firsts) x + slice_index (place_tree.counts ++ place_tree.counts) x ≤ length (halves count
          place_tree.place_parents)
      within x lt =
          let twin = is_twin count x lt in
          let firsts = family.firsts_len in
          let counts = family.counts_len in
          let fits = family.within twin.place twin.low in
          elim twin.which [
            | inl e ↦
                let first = ap (slice_index (halves count place_tree.firsts)) e ∙ half_low place_tree.firsts firsts twin.place
                twin.low in
                let some = ap (slice_index (place_tree.counts ++ place_tree.counts)) e
                ∙ in_front place_tree.counts twin.place (omega (arith, counts)) in
                let bound = within_moved 0 (slice_index place_tree.firsts twin.place) (slice_index place_tree.counts twin.place)
                (omega arith) fits in
                omega (arith, first, some, bound, ups_len)
            | inr e ↦
                let first = ap (slice_index (halves count place_tree.firsts)) e ∙ half_high place_tree.firsts firsts twin.place
                twin.low in
                let some = ap (slice_index (place_tree.counts ++ place_tree.counts)) e
                ∙ in_back place_tree.counts twin.place (omega (arith, counts)) count counts in
                let bound = within_moved count (slice_index place_tree.firsts twin.place) (slice_index place_tree.counts twin.place)
                (omega arith) fits in
                omega (arith, first, some, bound, ups_len)
          ]

-- each row holds a place or a copy
pub twin_below : (count : ℕ) (rows : List ℕ) → ((k : ℕ) → k < length rows → slice_index rows k < count) → (k : ℕ)
    → k < length (pairs count rows) → slice_index (pairs count rows) k < count + count
twin_below count rows below k lt =
    let pair = of_pair k in
    let len = pairs_length count rows in
    elim pair.which [
      | inl e ↦
          let here = ap (slice_index (pairs count rows)) e ∙ pair_first count rows pair.row in
          let low = below pair.row (omega (arith, lt, len, e)) in
          omega (arith, here, low)
      | inr e ↦
          let in_it : pair.row < length rows = omega (arith, lt, len, e) in
          let here = ap (slice_index (pairs count rows)) e ∙ pair_second count rows pair.row in_it in
          let low = below pair.row in_it in
          omega (arith, here, low)
    ]

-- the places and their copies, in one column
abbrev pub both_places : List Place → List Place
both_places ps = twins_from 0 0 (length ps) ps ++ twins_from (length ps) (length ps) (length ps) ps

both_halves : (f : Place → ℕ)
    → ((node by count : ℕ) (p : Place) → f (twin_place node by count p) ≡ moved_on by count (f p)) → (ps : List Place)
    → map f (both_places ps) ≡ halves (length ps) (map f ps)
both_halves f each ps =
    let n = length ps in
    map-append f (twins_from 0 0 n ps) (twins_from n n n ps)
    ∙ ap (λ ns. ns ++ map f (twins_from n n n ps)) (moved_numbers f 0 n (λ node. each node 0 n) 0 ps)
    ∙ ap (λ ns. map (moved_on 0 n) (map f ps) ++ ns) (moved_numbers f n n (λ node. each node n n) n ps)

pub both_are_twins : (room old : ℕ) (ps : List Place)
    → kin_of (record { room = room; items = both_places ps })
    ≡ twin_kin room (kin_of (record { room = old; items = ps }))
both_are_twins room old ps =
    let n = length ps in
    let node = λ (p : Place). p.node in
    let count = λ (p : Place). p.count in
    let up_len : length (map (λ (p : Place). p.parent_place) ps) ≡ n = simp length-map in
    let nodes : map node (both_places ps) ≡ range_with_len 0 (n + n) =
    map-append node (twins_from 0 0 n ps) (twins_from n n n ps)
    ∙ ap (λ ns. ns ++ map node (twins_from n n n ps)) (moved_nodes 0 0 n ps)
    ∙ ap (λ ns. range_with_len 0 n ++ ns) (moved_nodes n n n ps) ∙ range_twice n in
    let counts : map count (both_places ps) ≡ map count ps ++ map count ps =
    map-append count (twins_from 0 0 n ps) (twins_from n n n ps)
    ∙ ap (λ ns. ns ++ map count (twins_from n n n ps)) (moved_counts 0 0 n ps)
    ∙ ap (λ ns. map count ps ++ ns) (moved_counts n n n ps) in
    let branches = both_halves (λ (p : Place). p.branch) (λ node by count p. refl) ps in
    let place_parents = both_halves (λ (p : Place). p.parent_place) (λ node by count p. refl) ps in
    let firsts = both_halves (λ (p : Place). p.first) (λ node by count p. refl) ps in
    cc

-- the places of another column, added to one without places, and then moved on by their count
module _ (room count : ℕ) (start one : ReservedList Place) (ps lent : List Place) (count_is : count ≡ length ps)
    (lent_is : lent ≡ ps) (cleared : start ≡ record { room = room; items = [] })
    (first : one ≡ record start { items = start.items ++ twins_from (length start.items) 0 count lent }) where
  abbrev once : List Place
  once = twins_from 0 0 (length ps) ps

  pub first_pushed : one ≡ record { room = room; items = once }
  first_pushed =
      first
      ∙ ap (λ (r : ReservedList Place). record r { items = r.items ++ twins_from (length r.items) 0 count lent }) cleared
      ∙ ap (λ k. record { room = room; items = twins_from 0 0 k lent }) count_is
      ∙ ap (λ (xs : List Place). record { room = room; items = twins_from 0 0 (length ps) xs }) lent_is

  pub both_pushed : (two : ReservedList Place)
      → two ≡ record one { items = one.items ++ twins_from (length one.items) count count lent }
      → two ≡ record { room = room; items = both_places ps }
  both_pushed two second =
      second
      ∙ ap (λ (r : ReservedList Place). record r { items = r.items ++ twins_from (length r.items) count count lent })
      first_pushed
      ∙ ap (λ k. record { room = room; items = once ++ twins_from (length once) k k lent }) count_is
      ∙ ap (λ (xs : List Place). record {
        room = room;
        items = once ++ twins_from (length once) (length ps) (length ps)
            xs;
      }) lent_is
      ∙ ap (λ k. record { room = room; items = once ++ twins_from k (length ps) (length ps) ps }) (twins_length 0 0
      (length ps) ps)

pub keep_twins : (places : ReservedList Place) (room : ℕ) (from : ReservedList Place)
    → places ≡ record { room = room; items = both_places from.items } → room < 2 ^ 32
    → length from.items + length from.items ≤ room → IsFamily (kin_of from) → KeepKin places
keep_twins places room from are few fits family =
    let ps = from.items in
    let n = length ps in
    let len = length-append (twins_from 0 0 n ps) (twins_from n n n ps) in
    let one = twins_length 0 0 n ps in
    let two = twins_length n n n ps in
    let all : length (both_places ps) ≡ n + n = omega (arith, len, one, two) in
    subst KeepKin (sym are) (record {
      few = few;
      fits = omega (arith, all, fits);
      family = subst IsFamily (sym (both_are_twins room from.room ps)) (twin_family (kin_of from) family room);
    })

module _ (rows numbers offsets : ReservedList ℕ) (count : ℕ) (from : Ranked) (few : rows.room < 2 ^ 32)
    (numbers_room : numbers.room ≡ rows.room) (offsets_room : offsets.room ≡ rows.room)
    (numbers_len : length from.numbers ≡ count) (fits : length from.rows + length from.rows ≤ rows.room)
    (below : (k : ℕ) → k < length from.rows → slice_index from.rows k < count)
    (rows_are : rows.items ≡ pairs count from.rows)
    (numbers_are : numbers.items ≡ map (twice count) from.numbers ++ map (twice count) from.numbers) where
  pub keep_rows : KeepOrder rows numbers offsets
  keep_rows =
      let rows_len = ap (λ (ns : List ℕ). length ns) rows_are ∙ pairs_length count from.rows in
      let half : length (map (twice count) from.numbers) ≡ length from.numbers = simp length-map in
      let len = ap (λ (ns : List ℕ). length ns) numbers_are
      ∙ length-append (map (twice count) from.numbers) (map (twice count) from.numbers) in
      record {
        few = few;
        fits = omega (arith, rows_len, fits);
        numbers_room = numbers_room;
        offsets_room = offsets_room;
        below = λ k lt.
            let here = ap (λ (ns : List ℕ). slice_index ns k) rows_are in
            let there = ap (λ (ns : List ℕ). length ns) rows_are in
            let low = twin_below count from.rows below k (omega (arith, lt, there)) in
            omega (arith, here, low, len, half, numbers_len);
      }

pub no_flags : (n row : ℕ) → has_flag (replicate n false) row ≡ false
no_flags zero row = refl
no_flags (suc n) zero = refl
no_flags (suc n) (suc row) = no_flags n row

-- a key of each place and of each copy is one of each node
pub twins_keyed : (room : ℕ) (place_tree : PlaceTree) → AreKeyed (length place_tree.place_parents + length place_tree.place_parents) (twin_kin room place_tree)
twins_keyed room place_tree = record {
  each = λ place lt.
      let len = halves_length (length place_tree.place_parents) place_tree.place_parents in
      let low : place < length place_tree.place_parents + length place_tree.place_parents = omega (arith, lt, len) in
      let here = get_or-range_with_len 0 (length place_tree.place_parents + length place_tree.place_parents) place 0 low in
      omega (arith, here, low);
}
