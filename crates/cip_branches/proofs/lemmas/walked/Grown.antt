-- A place pushed after all others.
use Rattle.std.proofs.Common.{◌≡◌, ◌<◌, ◌≤◌, ◌+◌, ◌-◌, ◌++◌, ◌∷◌, ◌⊎◌, ℕ, List, [], map, length, slice_index, refl, sym, ap, ◌∙◌, subst, arith, inl, inr, length-append}
use Rattle.std.specs.List.{AllByRecursion, range_with_len}
use Rattle.std.proofs.lemmas.Bool.{cases_lt}
use Rattle.std.proofs.lemmas.List.{get_or_append_left, get_or-append_right}
use Rattle.cip_branches.specs.SphereColumns.{SphereColumns, with_new_place, with_nodes}
use Rattle.cip_branches.specs.Walking.{HaveEntries, Grows, known, first_row}

pub one_more : (xs : List ℕ) (x : ℕ) → length (xs ++ x ∷ []) ≡ length xs + 1
one_more xs x = length-append xs (x ∷ [])

pub was_there : (xs : List ℕ) (x k : ℕ) → k < length xs → slice_index (xs ++ x ∷ []) k ≡ slice_index xs k
was_there xs x k lt = get_or_append_left xs (x ∷ []) 0 k lt

pub is_last : (xs : List ℕ) (x k : ℕ) → k ≡ length xs → slice_index (xs ++ x ∷ []) k ≡ x
is_last xs x k at =
    let none : k - length xs ≡ 0 = omega (arith, at) in
    get_or-append_right xs (x ∷ []) (length xs) k 0 refl (omega (arith, at)) ∙ ap (λ n. slice_index (x ∷ []) n) none

-- each column has one entry more
entries_on : (node branch parent_place number : ℕ) (now : SphereColumns) → HaveEntries now
    → HaveEntries (with_new_place node branch parent_place number now)
entries_on node branch parent_place number now entries =
    let count = one_more now.place_tree.place_parents parent_place in
    record {
      nodes = let e = entries.nodes in let one = one_more now.place_tree.nodes node in omega (arith, e, one, count);
      branches = let e = entries.branches in let one = one_more now.place_tree.branches branch in omega (arith, e, one, count);
      firsts = let e = entries.firsts in let one = one_more now.place_tree.firsts 0 in omega (arith, e, one, count);
      counts = let e = entries.counts in let one = one_more now.place_tree.counts 0 in omega (arith, e, one, count);
      numbers = let e = entries.numbers in let one = one_more now.ranked.numbers number in omega (arith, e, one, count);
      before = let e = entries.before in let one = one_more now.before now.place_tree.room in omega (arith, e, one, count);
    }

module _ (begin : SphereColumns) where
  -- as it begins all is unchanged, and no place is new
  pub grows_none : HaveEntries begin → Grows begin begin
  grows_none entries = record {
    kin_room = refl;
    ranked_room = refl;
    starts = refl;
    entries = entries;
    more = omega arith;
    rows_len = omega arith;
    node = λ p lt. refl;
    branch = λ p lt. refl;
    parent_place = λ p lt. refl;
    number = λ p lt. refl;
    before = λ p lt. refl;
    row = λ k lt. refl;
    new_row = λ p low high. absurd (omega (arith, low, high));
    new_number = λ p low high. absurd (omega (arith, low, high));
    new_before = λ p low high. absurd (omega (arith, low, high));
    new_count = λ p low high. absurd (omega (arith, low, high));
  }

  module _ (node branch parent_place number : ℕ) (now : SphereColumns) (grows : Grows begin now)
      (is_row : number ≡ length begin.ranked.rows) where
    abbrev new : SphereColumns
    new = with_new_place node branch parent_place number now

    count : length new.place_tree.place_parents ≡ length now.place_tree.place_parents + 1
    count = one_more now.place_tree.place_parents parent_place

    at_end : (p : ℕ) → p < length new.place_tree.place_parents → (p < length now.place_tree.place_parents) ⊎ (p ≡ length now.place_tree.place_parents)
    at_end p lt = elim (cases_lt p (length now.place_tree.place_parents)) [
      | inl below ↦ inl below
      | inr above ↦ inr (omega (arith, above, lt, count))
    ]

    pub pushed : Grows begin new
    pushed =
        let entries = grows.entries in
        let more = grows.more in
        let rows_len = grows.rows_len in
        record {
          kin_room = grows.kin_room;
          ranked_room = grows.ranked_room;
          starts = grows.starts;
          entries = entries_on node branch parent_place number now entries;
          more = omega (arith, more, count);
          rows_len = let one = one_more now.ranked.rows (length now.ranked.numbers) in
              omega (arith, rows_len, one, count, more);
          node = λ p lt. was_there now.place_tree.nodes node p (let e = entries.nodes in omega (arith, e, lt, more))
              ∙ grows.node p lt;
          branch = λ p lt. was_there now.place_tree.branches branch p (let e = entries.branches in omega (arith, e, lt, more))
              ∙ grows.branch p lt;
          parent_place = λ p lt. was_there now.place_tree.place_parents parent_place p (omega (arith, lt, more)) ∙ grows.parent_place p lt;
          number = λ p lt. was_there now.ranked.numbers number p (let e = entries.numbers in omega (arith, e, lt, more))
              ∙ grows.number p lt;
          before = λ p lt. was_there now.before now.place_tree.room p (let e = entries.before in omega (arith, e, lt, more))
              ∙ grows.before p lt;
          row = λ k lt. was_there now.ranked.rows (length now.ranked.numbers) k (omega (arith, rows_len, lt))
              ∙ grows.row k lt;
          new_row = λ p l h. elim (at_end p h) [
            | inl below ↦ was_there now.ranked.rows (length now.ranked.numbers) (first_row begin + (p - known begin))
                (omega (arith, rows_len, below, l)) ∙ grows.new_row p l below
            | inr at ↦ is_last now.ranked.rows (length now.ranked.numbers) (first_row begin + (p - known begin))
                (omega (arith, rows_len, at)) ∙ entries.numbers ∙ sym at
          ];
          new_number = λ p l h. elim (at_end p h) [
            | inl below ↦ was_there now.ranked.numbers number p (let e = entries.numbers in omega (arith, e, below))
                ∙ grows.new_number p l below
            | inr at ↦ is_last now.ranked.numbers number p (at ∙ sym entries.numbers) ∙ is_row
          ];
          new_before = λ p l h. elim (at_end p h) [
            | inl below ↦ was_there now.before now.place_tree.room p (let e = entries.before in omega (arith, e, below))
                ∙ grows.new_before p l below
            | inr at ↦ is_last now.before now.place_tree.room p (at ∙ sym entries.before) ∙ grows.kin_room
          ];
          new_count = λ p l h. elim (at_end p h) [
            | inl below ↦ was_there now.place_tree.counts 0 p (let e = entries.counts in omega (arith, e, below))
                ∙ grows.new_count p l below
            | inr at ↦ is_last now.place_tree.counts 0 p (at ∙ sym entries.counts)
          ];
        }

  pub pushed_all : (nodes : List ℕ) (branch parent_place number : ℕ) (now : SphereColumns) → Grows begin now
      → number ≡ length begin.ranked.rows
      → Grows begin (with_nodes nodes branch parent_place number now)
  pushed_all [] branch parent_place number now grows is_row = grows
  pushed_all (n ∷ nodes) branch parent_place number now grows is_row =
      pushed_all nodes branch parent_place number (with_new_place n branch parent_place number now)
      (pushed n branch parent_place number now grows is_row) is_row

-- what holds where nodes are pushed below a place
pub record Extends (branch parent_place : ℕ) (now new : SphereColumns) : Type 0 where
  pub more : length now.place_tree.place_parents ≤ length new.place_tree.place_parents
  pub place_parents : (p : ℕ) → p < length now.place_tree.place_parents → slice_index new.place_tree.place_parents p ≡ slice_index now.place_tree.place_parents p
  pub nodes : (p : ℕ) → p < length now.place_tree.place_parents → slice_index new.place_tree.nodes p ≡ slice_index now.place_tree.nodes p
  pub firsts : (p : ℕ) → p < length now.place_tree.place_parents → slice_index new.place_tree.firsts p ≡ slice_index now.place_tree.firsts p
  pub counts : (p : ℕ) → p < length now.place_tree.place_parents → slice_index new.place_tree.counts p ≡ slice_index now.place_tree.counts p
  pub branches : (p : ℕ) → p < length now.place_tree.place_parents → slice_index new.place_tree.branches p ≡ slice_index now.place_tree.branches p
  pub below : (p : ℕ) → length now.place_tree.place_parents ≤ p → p < length new.place_tree.place_parents → slice_index new.place_tree.place_parents p ≡ parent_place
  pub within : (p : ℕ) → length now.place_tree.place_parents ≤ p → p < length new.place_tree.place_parents → slice_index new.place_tree.branches p ≡ branch

pub extended : (nodes : List ℕ) (branch parent_place number : ℕ) (now : SphereColumns) → HaveEntries now
    → Extends branch parent_place now (with_nodes nodes branch parent_place number now)
extended [] branch parent_place number now entries = record {
  more = omega arith;
  place_parents = λ p lt. refl;
  nodes = λ p lt. refl;
  firsts = λ p lt. refl;
  counts = λ p lt. refl;
  branches = λ p lt. refl;
  below = λ p low high. absurd (omega (arith, low, high));
  within = λ p low high. absurd (omega (arith, low, high));
}
extended (n ∷ nodes) branch parent_place number now entries =
    let next = with_new_place n branch parent_place number now in
    let count : length next.place_tree.place_parents ≡ length now.place_tree.place_parents + 1 = one_more now.place_tree.place_parents parent_place in
    let rest = extended nodes branch parent_place number next (entries_on n branch parent_place number now entries) in
    record {
      more = let le = rest.more in omega (arith, le, count);
      place_parents = λ p lt. rest.place_parents p (omega (arith, lt, count)) ∙ was_there now.place_tree.place_parents parent_place p lt;
      nodes = λ p lt. rest.nodes p (omega (arith, lt, count)) ∙ was_there now.place_tree.nodes n p
          (let e = entries.nodes in omega (arith, lt, e));
      firsts = λ p lt. rest.firsts p (omega (arith, lt, count)) ∙ was_there now.place_tree.firsts 0 p
          (let e = entries.firsts in omega (arith, lt, e));
      counts = λ p lt. rest.counts p (omega (arith, lt, count)) ∙ was_there now.place_tree.counts 0 p
          (let e = entries.counts in omega (arith, lt, e));
      below = λ p low high. elim (cases_lt p (length next.place_tree.place_parents)) [
        | inl first ↦ rest.place_parents p first ∙ is_last now.place_tree.place_parents parent_place p (omega (arith, low, first, count))
        | inr later ↦ rest.below p later high
      ];
      branches = λ p lt. rest.branches p (omega (arith, lt, count)) ∙ was_there now.place_tree.branches branch p
          (let e = entries.branches in omega (arith, lt, e));
      within = λ p low high. elim (cases_lt p (length next.place_tree.place_parents)) [
        | inl first ↦ rest.branches p first ∙ is_last now.place_tree.branches branch p
            (let e = entries.branches in omega (arith, low, first, count, e))
        | inr later ↦ rest.within p later high
      ];
    }

-- the nodes are at the new places in their order
pub nodes_told : (nodes : List ℕ) (branch parent_place number : ℕ) (now : SphereColumns) → HaveEntries now
    → map (slice_index (with_nodes nodes branch parent_place number now).place_tree.nodes) (range_with_len (length now.place_tree.place_parents)
    (length nodes)) ≡ nodes
nodes_told [] branch parent_place number now entries = refl
nodes_told (n ∷ nodes) branch parent_place number now entries =
    let next = with_new_place n branch parent_place number now in
    let read = slice_index (with_nodes nodes branch parent_place number next).place_tree.nodes in
    let on = entries_on n branch parent_place number now entries in
    let count : length next.place_tree.place_parents ≡ length now.place_tree.place_parents + 1 = one_more now.place_tree.place_parents parent_place in
    let head : read (length now.place_tree.place_parents) ≡ n = (extended nodes branch parent_place number next on).nodes (length now.place_tree.place_parents)
    (omega (arith, count)) ∙ is_last now.place_tree.nodes n (length now.place_tree.place_parents) (sym entries.nodes) in
    ap (λ x. x ∷ map read (range_with_len (length now.place_tree.place_parents + 1) (length nodes))) head
    ∙ ap (λ x. n ∷ map read (range_with_len x (length nodes))) (sym count)
    ∙ ap (λ (ns : List ℕ). n ∷ ns) (nodes_told nodes branch parent_place number next on)

-- what holds of all nodes that are pushed holds of the node at each new place
pub new_nodes : (P : ℕ → Type 0) (nodes : List ℕ) (branch parent_place number : ℕ) (now : SphereColumns) → HaveEntries now
    → AllByRecursion P nodes → (p : ℕ) → length now.place_tree.place_parents ≤ p
    → p < length (with_nodes nodes branch parent_place number now).place_tree.place_parents
    → P (slice_index (with_nodes nodes branch parent_place number now).place_tree.nodes p)
new_nodes P [] branch parent_place number now entries all p low high = absurd (omega (arith, low, high))
new_nodes P (n ∷ nodes) branch parent_place number now entries all p low high =
    let next = with_new_place n branch parent_place number now in
    let on = entries_on n branch parent_place number now entries in
    let count : length next.place_tree.place_parents ≡ length now.place_tree.place_parents + 1 = one_more now.place_tree.place_parents parent_place in
    elim (cases_lt p (length next.place_tree.place_parents)) [
      | inl first ↦ subst P (sym ((extended nodes branch parent_place number next on).nodes p first ∙ is_last now.place_tree.nodes n p
          (omega (arith, low, first, count, entries.nodes)))) all.0
      | inr later ↦ new_nodes P nodes branch parent_place number next on all.1 p later high
    ]
