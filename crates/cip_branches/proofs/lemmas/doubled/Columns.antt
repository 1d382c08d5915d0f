-- The columns of doubled branches belong together.
use Rattle.std.proofs.Common.{◌≡◌, ◌<◌, ◌≤◌, ◌+◌, ◌^◌, ◌++◌, ◌∷◌, ℕ, Bool, false, List, [], length, map, take, replicate, sym, ap, ◌∙◌, arith}
use Rattle.std.proofs.lemmas.List.{length-append, length-map, length-replicate, length-take}
use Rattle.cip_branches.specs.SphereColumns.{KeepLayers}
use Rattle.cip_partition.specs.PlaceTree.{PlaceTree}
use Rattle.cip_partition.specs.Parting.{has_flag}
use Rattle.cip_partition.specs.Ranked.{Ranked}
use Rattle.cip_partition.specs.ReservedList.{ReservedList}
use Rattle.cip_partition.specs.Twins.{twice, twin_kin, twin_ranked}
use Rattle.cip_partition.proofs.lemmas.TwinLists.{halves_length, pairs_length}
use Rattle.cip_partition.proofs.lemmas.TwinPlaces.{no_flags}

-- places and their copies have twice as many numbers
pub twin_numbers_long : (room count : ℕ) (was : Ranked) → length (twin_ranked room count was).numbers
    ≡ length was.numbers + length was.numbers
twin_numbers_long room count was =
    let half : length (map (twice count) was.numbers) ≡ length was.numbers = simp length-map in
    let both = length-append (map (twice count) was.numbers) (map (twice count) was.numbers) in
    omega (arith, half, both)

module _ (place_tree : PlaceTree) (ranked : Ranked) (starts before : ReservedList ℕ) (flags : ReservedList Bool) (sets : ReservedList ℕ)
    (room count : ℕ) (was : PlaceTree) (was_ranked : Ranked) (kin_is : place_tree ≡ twin_kin room was)
    (ranked_is : ranked ≡ twin_ranked room (length was_ranked.numbers) was_ranked) (fits : count + count ≤ room)
    (ups_len : length was.place_parents ≡ count) (numbers_len : length was_ranked.numbers ≡ count)
    (rows_len : length was_ranked.rows ≤ count) (few : room + 1 < 2 ^ 32) (starts_room : starts.room ≡ room + 1)
    (kept past : ℕ) (held : List ℕ) (kept_in : kept < room)
    (starts_are : starts.items ≡ map (twice count) (take (kept + 1) held) ++ (past + past) ∷ [])
    (before_room : before.room ≡ room) (flags_room : flags.room ≡ room) (sets_room : sets.room ≡ room)
    (before_are : before.items ≡ ranked.numbers) (flags_are : flags.items ≡ replicate (count + count) false)
    (sets_are : sets.items ≡ replicate (count + count) 0) where
  pub keep_columns : KeepLayers place_tree ranked starts before flags sets
  keep_columns =
      let kin_room = ap (λ (k : PlaceTree). k.room) kin_is in
      let ranked_room = ap (λ (r : Ranked). r.room) ranked_is in
      let place_parents = ap (λ (k : PlaceTree). length k.place_parents) kin_is ∙ halves_length (length was.place_parents) was.place_parents in
      let rows = ap (λ (r : Ranked). length r.rows) ranked_is ∙ pairs_length (length was_ranked.numbers)
      was_ranked.rows in
      let half : length (map (twice (length was_ranked.numbers)) was_ranked.numbers) ≡ length was_ranked.numbers =
      simp length-map in
      let numbers = ap (λ (r : Ranked). length r.numbers) ranked_is
      ∙ length-append (map (twice (length was_ranked.numbers)) was_ranked.numbers)
      (map (twice (length was_ranked.numbers)) was_ranked.numbers) in
      let held_len = length-take (kept + 1) held in
      let at_most : length (take (kept + 1) held) ≤ kept + 1 = grind (arith, held_len) in
      let starts_half : length (map (twice count) (take (kept + 1) held)) ≡ length (take (kept + 1) held) =
      simp length-map in
      let starts_len = ap (λ (ns : List ℕ). length ns) starts_are
      ∙ length-append (map (twice count) (take (kept + 1) held)) ((past + past) ∷ []) in
      let before_len = ap (λ (ns : List ℕ). length ns) before_are in
      let flags_len = ap (λ (bs : List Bool). length bs) flags_are ∙ length-replicate (count + count) false in
      let sets_len = ap (λ (ns : List ℕ). length ns) sets_are ∙ length-replicate (count + count) 0 in
      record {
        few = omega (arith, few, kin_room);
        fits = omega (arith, kin_room, place_parents, fits, ups_len);
        ranked_room = ranked_room ∙ sym kin_room;
        starts_room = starts_room ∙ ap (λ n. n + 1) (sym kin_room);
        starts_fit = omega (arith, starts_len, starts_half, at_most, kept_in, kin_room);
        before_room = before_room ∙ sym kin_room;
        flags_room = flags_room ∙ sym kin_room;
        sets_room = sets_room ∙ sym kin_room;
        rows_len = omega (arith, rows, place_parents, rows_len, ups_len);
        numbers_len = omega (arith, numbers, half, numbers_len, place_parents, ups_len);
        before_len = omega (arith, before_len, numbers, half, numbers_len, place_parents, ups_len);
        flags_len = omega (arith, flags_len, place_parents, ups_len);
        sets_len = omega (arith, sets_len, place_parents, ups_len);
        none = record { none = λ row. ap (λ bs. has_flag bs row) flags_are ∙ no_flags (count + count) row };
      }
