-- Places in one column, as the lists of what is known of them.
use Rattle.std.proofs.Common.{◌≡◌, ◌<◌, ◌≤◌, ◌+◌, ◌++◌, ◌∷◌, [], ℕ, List, length, map, slice_index, slice_set, refl, sym, ap, ◌∙◌, subst, arith, inl, inr}
use Rattle.std.specs.List.{slice_index_or}
use Rattle.std.proofs.lemmas.Bool.{cases_lt}
use Rattle.std.proofs.lemmas.List.{length-append, length-map, length-set, map-append, get_or_append_left, get_or-append-add, get_or-map, get_or-set_same, get_or-set_other, map-set}
use lib.Seq.{map-set_same}
use Rattle.cip_partition.specs.PlaceTree.{PlaceTree, IsFamily, KeepKin, kin_of, with_children, with_place}
use Rattle.cip_partition.specs.ReservedList.{ReservedList}
use Rattle.cip_partition.specs.declared.places.place.Place.{Place}
use Rattle.cip_partition.proofs.lemmas.Cases.{cases_same}

abbrev pub none : Place
none = record { node = 0; branch = 0; parent_place = 0; first = 0; count = 0 }

-- how many places there are
pub place_count : (places : ReservedList Place) (place_tree : PlaceTree) → kin_of places ≡ place_tree → length place_tree.place_parents ≡ length places.items
place_count places place_tree is =
    let place_parents : length (map (λ (p : Place). p.parent_place) places.items) ≡ length places.items = simp length-map in
    sym (ap (λ (k : PlaceTree). length k.place_parents) is) ∙ place_parents

-- a place of the family is one of the column, as it is lent
pub place_within : (places : ReservedList Place) (place_tree : PlaceTree) → kin_of places ≡ place_tree → (lent : List Place)
    → lent ≡ places.items → (place : ℕ) → place < length place_tree.place_parents → place < length lent
place_within places place_tree view lent same place within =
    let count = place_count places place_tree view in
    subst (λ ps. place < length ps) (sym same) (omega (arith, within, count))

pub kids_within : (places : ReservedList Place) → KeepKin places → (place_tree : PlaceTree) → kin_of places ≡ place_tree → (lent : List Place)
    → lent ≡ places.items → (at : ℕ) → at < length place_tree.place_parents
    → (slice_index_or lent at none).first + (slice_index_or lent at none).count ≤ length places.items
kids_within places keep place_tree is lent lent_is at lt =
    let items = places.items in
    let known = place_count places place_tree is in
    let low : at < length items = omega (arith, known, lt) in
    let place_parents : length (map (λ (p : Place). p.parent_place) items) ≡ length items = simp length-map in
    let first = get_or-map (λ (p : Place). p.first) items at none 0 low in
    let count = get_or-map (λ (p : Place). p.count) items at none 0 low in
    let within = keep.family.within at (omega (arith, place_parents, low)) in
    subst (λ (xs : List Place). (slice_index_or xs at none).first + (slice_index_or xs at none).count ≤ length items)
    (sym lent_is) (omega (arith, first, count, within, place_parents))

-- a family in which the range of a place's children is another one
family_with : (place_tree : PlaceTree) → IsFamily place_tree → (at first count : ℕ) → at < length place_tree.place_parents → first + count ≤ length place_tree.place_parents
    → IsFamily (with_children at first count place_tree)
family_with place_tree is at first count lt fits = record {
  nodes_len = is.nodes_len;
  branches_len = is.branches_len;
  firsts_len = length-set place_tree.firsts at first ∙ is.firsts_len;
  counts_len = length-set place_tree.counts at count ∙ is.counts_len;
  within = λ p h. elim (cases_same p at) [
    | inl same ↦
        let firsts = is.firsts_len in
        let counts = is.counts_len in
        let start = ap (slice_index (slice_set place_tree.firsts at first)) same
        ∙ get_or-set_same place_tree.firsts at first 0 (omega (arith, lt, firsts)) in
        let some = ap (slice_index (slice_set place_tree.counts at count)) same
        ∙ get_or-set_same place_tree.counts at count 0 (omega (arith, lt, counts)) in
        omega (arith, start, some, fits)
    | inr differ ↦
        let start = get_or-set_other place_tree.firsts at p first 0 differ in
        let some = get_or-set_other place_tree.counts at p count 0 differ in
        let before = is.within p h in
        omega (arith, start, some, before)
  ];
}

abbrev rewritten : List Place → ℕ → ℕ → ℕ → Place
rewritten items at first count = record {
  node = (slice_index_or items at none).node;
  branch = (slice_index_or items at none).branch;
  parent_place = (slice_index_or items at none).parent_place;
  first = first;
  count = count;
}

module _ (places now : ReservedList Place) (lent : List Place) (lent_is : lent ≡ places.items) (at first count : ℕ)
    (is : now ≡ record places { items = slice_set places.items at (rewritten lent at first count) }) where
  pub kids_set : kin_of now ≡ with_children at first count (kin_of places)
  kids_set =
      let items = places.items in
      let here = rewritten items at first count in
      let set : kin_of now ≡ kin_of (record places { items = slice_set items at here }) =
      ap kin_of is ∙ ap (λ (xs : List Place). kin_of (record places {
        items = slice_set items at (rewritten xs at first
            count);
      })) lent_is in
      let nodes = map-set_same (λ (p : Place). p.node) items at here none refl in
      let branches = map-set_same (λ (p : Place). p.branch) items at here none refl in
      let place_parents = map-set_same (λ (p : Place). p.parent_place) items at here none refl in
      let firsts = map-set (λ (p : Place). p.first) items at here in
      let counts = map-set (λ (p : Place). p.count) items at here in
      let all : kin_of (record places { items = slice_set items at here }) ≡ with_children at first count
      (kin_of places) = cc in
      set ∙ all

  pub keep_set : KeepKin places → (place_tree : PlaceTree) → kin_of places ≡ place_tree → at < length place_tree.place_parents
      → first + count ≤ length place_tree.place_parents → KeepKin now
  keep_set keep place_tree kin_is lt fits =
      let room = ap (λ (r : ReservedList Place). r.room) is in
      let len = ap (λ (r : ReservedList Place). length r.items) is
      ∙ length-set places.items at (rewritten lent at first count) in
      let few = keep.few in
      let held = keep.fits in
      let same = ap (λ (k : PlaceTree). length k.place_parents) kin_is in
      record {
        few = omega (arith, room, few);
        fits = omega (arith, room, len, held);
        family = subst IsFamily (sym kids_set) (family_with (kin_of places) keep.family at first count
            (omega (arith, lt, same)) (omega (arith, fits, same)));
      }

-- a family with one place more, which has no children yet
family_pushed : (node branch parent_place : ℕ) (place_tree : PlaceTree) → IsFamily place_tree → IsFamily (with_place node branch parent_place place_tree)
family_pushed node branch parent_place place_tree is =
    let place_parents = length-append place_tree.place_parents (parent_place ∷ []) in
    let longer : (ns : List ℕ) (n : ℕ) → length ns ≡ length place_tree.place_parents → length (ns ++ n ∷ []) ≡ length (place_tree.place_parents ++ parent_place ∷ []) =
    λ ns n same. let more = length-append ns (n ∷ []) in omega (arith, more, same, place_parents) in
    record {
      nodes_len = longer place_tree.nodes node is.nodes_len;
      branches_len = longer place_tree.branches branch is.branches_len;
      firsts_len = longer place_tree.firsts 0 is.firsts_len;
      counts_len = longer place_tree.counts 0 is.counts_len;
      within = λ p h. elim (cases_lt p (length place_tree.place_parents)) [
        | inl before ↦
            let firsts = is.firsts_len in
            let counts = is.counts_len in
            let start = get_or_append_left place_tree.firsts (0 ∷ []) 0 p (omega (arith, before, firsts)) in
            let some = get_or_append_left place_tree.counts (0 ∷ []) 0 p (omega (arith, before, counts)) in
            let within = is.within p before in
            omega (arith, start, some, within, place_parents)
        | inr behind ↦
            let last : p ≡ length place_tree.place_parents = omega (arith, h, place_parents, behind) in
            let start = ap (slice_index (place_tree.firsts ++ 0 ∷ [])) (last ∙ sym is.firsts_len) ∙ last_is place_tree.firsts in
            let some = ap (slice_index (place_tree.counts ++ 0 ∷ [])) (last ∙ sym is.counts_len) ∙ last_is place_tree.counts in
            omega (arith, start, some)
      ];
    }
  where
    last_is : (ns : List ℕ) → slice_index (ns ++ 0 ∷ []) (length ns) ≡ 0
    last_is ns = let none : length ns ≡ length ns + 0 = omega arith in
        ap (slice_index (ns ++ 0 ∷ [])) none ∙ get_or-append-add ns (0 ∷ []) 0 0

module _ (places now : ReservedList Place) (node branch parent_place : ℕ) (is : now ≡ record places {
  items = places.items ++ record { node = node; branch = branch; parent_place = parent_place; first = 0; count = 0 } ∷ [];
}) where
  pub kin_pushed : kin_of now ≡ with_place node branch parent_place (kin_of places)
  kin_pushed = ap kin_of is ∙ simp map-append

  pub keep_pushed : KeepKin places → (place_tree : PlaceTree) → kin_of places ≡ place_tree → length place_tree.place_parents < place_tree.room → KeepKin now
  keep_pushed keep place_tree kin_is lt =
      let room = ap (λ (r : ReservedList Place). r.room) is in
      let len = ap (λ (r : ReservedList Place). length r.items) is ∙ length-append places.items _ in
      let few = keep.few in
      let count = place_count places place_tree kin_is in
      let same = ap (λ (k : PlaceTree). k.room) kin_is in
      record {
        few = omega (arith, room, few);
        fits = omega (arith, room, len, lt, count, same);
        family = subst IsFamily (sym kin_pushed) (family_pushed node branch parent_place (kin_of places) keep.family);
      }
