-- The places of the last sphere walked one after the other.
use Rattle.std.proofs.Common.{◌≡◌, ◌≢◌, ◌<◌, ◌≤◌, ◌+◌, ◌-◌, ◌++◌, ◌⊎◌, ℕ, zero, suc, Bool, true, false, cond, List, [], map, length, slice_index, refl, sym, ap, ◌∙◌, subst, arith, inl, inr, append-nil, append_assoc}
use Rattle.std.specs.List.{AllByRecursion, range_with_len}
use Rattle.std.proofs.lemmas.Bool.{cases_lt}
use Rattle.std.proofs.lemmas.List.{get_or-set_same, get_or-set_other, length-set}
use Rattle.std.proofs.lemmas.List.Sums.{sum_by-cons}
use Rattle.cip_rank.proofs.lemmas.Descending.{all_by}
use Rattle.cip_rank.proofs.lemmas.Parts.{map_alike}
use Rattle.cip_partition.specs.Kids.{kids_of, IsAmong}
use Rattle.cip_branches.specs.SphereColumns.{SphereColumns, with_nodes, with_kids}
use Rattle.cip_partition.specs.Parting.{has_flag}
use Rattle.cip_branches.specs.Walking.{HaveEntries, Grows, Walks, kids_left, wanted_at, wanted_kids}
use Rattle.cip_partition.proofs.lemmas.Cases.{cases_flag, not_both, among_range}
use Rattle.cip_branches.proofs.lemmas.walked.Grown.{grows_none, pushed_all, Extends, extended, nodes_told, new_nodes}
use Rattle.cip_branches.proofs.lemmas.walked.Pushed.{places_more, nodes_behind}
use Rattle.cip_branches.proofs.lemmas.room.Kids.{told_more}

pub by_range : (P : ℕ → Type 0) (first count : ℕ) → ((k : ℕ) → first ≤ k → k < first + count → P k)
    → AllByRecursion P (range_with_len first count)
by_range P first zero each = tt
by_range P first (suc count) each = (
  each first (omega arith) (omega arith),
  by_range P (first + 1) count (λ k low high. each k (omega (arith, low)) (omega (arith, high))),
)

module _ (begin : SphereColumns) (first size : ℕ) (kids_at : ℕ → List ℕ) (unresolved : List Bool)
    (bare : (p : ℕ) → first ≤ p → p < length begin.place_tree.place_parents → slice_index begin.place_tree.counts p ≡ 0) where
  pub none_walked : HaveEntries begin → Walks begin first size kids_at unresolved first begin
  none_walked entries = record {
    grows = grows_none begin entries;
    listed =
        let none : 0 ≡ first - first = omega arith in
        sym (append-nil begin.place_tree.nodes)
        ∙ ap (λ n. begin.place_tree.nodes ++ wanted_kids kids_at unresolved begin.place_tree first n) none;
    untouched = λ p lt which. refl;
    done = λ p low high. absurd (omega (arith, low, high));
    node_data = λ p low high is. absurd (omega (arith, low, high));
    new_kid = λ p low high. absurd (omega (arith, low, high));
    new_low = λ p low high. absurd (omega (arith, low, high));
    new_high = λ p low high. absurd (omega (arith, low, high));
    new_node = λ p low high. absurd (omega (arith, low, high));
    new_branch = λ p low high. absurd (omega (arith, low, high));
    wanted_above = λ p low high. absurd (omega (arith, low, high));
  }

  module _ (place : ℕ) (low : first ≤ place) (high : place < length begin.place_tree.place_parents) (now : SphereColumns)
      (walks : Walks begin first size kids_at unresolved place now) where
    before_it : (p : ℕ) → p < suc place → (p < place) ⊎ (p ≡ place)
    before_it p lt = elim (cases_lt p place) [
      | inl below ↦ inl below
      | inr above ↦ inr (omega (arith, above, lt))
    ]

    apart : (p : ℕ) → (p < first) ⊎ (suc place ≤ p) → p ≢ place
    apart p which = elim which [
      | inl below ↦ λ e. absurd (omega (arith, e, below, low))
      | inr above ↦ λ e. absurd (omega (arith, e, above))
    ]

    wider : (p : ℕ) → (p < first) ⊎ (suc place ≤ p) → (p < first) ⊎ (place ≤ p)
    wider p which = elim which [
      | inl below ↦ inl below
      | inr above ↦ inr (omega (arith, above))
    ]

    here_at : first + (place - first) ≡ place
    here_at = omega (arith, low)

    -- what is walked below a place comes after what was
    listed_on : (nodes kids : List ℕ) → nodes ≡ now.place_tree.nodes ++ kids
        → kids ≡ wanted_at kids_at unresolved begin.place_tree place
        → nodes ≡ begin.place_tree.nodes ++ wanted_kids kids_at unresolved begin.place_tree first (suc place - first)
    listed_on nodes kids behind is =
        let done = wanted_kids kids_at unresolved begin.place_tree first (place - first) in
        let next : suc (place - first) ≡ suc place - first = omega (arith, low) in
        behind ∙ ap (λ (ns : List ℕ). ns ++ kids) walks.listed ∙ append_assoc begin.place_tree.nodes done kids
        ∙ ap (λ (ns : List ℕ). begin.place_tree.nodes ++ (done ++ ns)) is
        ∙ ap (λ p. begin.place_tree.nodes ++ (done ++ wanted_at kids_at unresolved begin.place_tree p)) (sym here_at)
        ∙ ap (λ (ns : List ℕ). begin.place_tree.nodes ++ ns)
        (sym (told_more (wanted_at kids_at unresolved begin.place_tree) first (place - first)))
        ∙ ap (λ n. begin.place_tree.nodes ++ wanted_kids kids_at unresolved begin.place_tree first n) next

    -- a place that isn't unresolved has no children
    pub skipped : has_flag unresolved (slice_index begin.place_tree.branches place) ≡ false
        → Walks begin first size kids_at unresolved (suc place) now
    skipped none =
        let bare_here : kids_of now.place_tree place ≡ [] = walks.untouched place high (inr (omega arith))
        ∙ ap (range_with_len (slice_index begin.place_tree.firsts place)) (bare place low high) in
        record {
          grows = walks.grows;
          listed = listed_on now.place_tree.nodes [] (sym (append-nil now.place_tree.nodes))
              (sym (ap (λ b. cond b (kids_at (slice_index begin.place_tree.nodes place)) []) none));
          untouched = λ p lt which. walks.untouched p lt (wider p which);
          done = λ p l h. elim (before_it p h) [
            | inl before ↦ walks.done p l before
            | inr at ↦ rw (at, bare_here) tt
          ];
          node_data = λ p l h is. elim (before_it p h) [
            | inl before ↦ walks.node_data p l before is
            | inr at ↦ absurd (not_both (has_flag unresolved (slice_index begin.place_tree.branches place))
                (ap (λ q. has_flag unresolved (slice_index begin.place_tree.branches q)) (sym at) ∙ is) none)
          ];
          new_kid = walks.new_kid;
          new_low = walks.new_low;
          new_high = λ p l h. let lt = walks.new_high p l h in omega (arith, lt);
          new_node = walks.new_node;
          new_branch = walks.new_branch;
          wanted_above = walks.wanted_above;
        }

    module _ (nodes : List ℕ) (number : ℕ) (is_nodes : nodes ≡ kids_at (slice_index begin.place_tree.nodes place))
        (is_row : number ≡ length begin.ranked.rows)
        (is_unresolved : has_flag unresolved (slice_index begin.place_tree.branches place) ≡ true)
        (within : AllByRecursion (λ n. n < size) (kids_at (slice_index begin.place_tree.nodes place))) where
      abbrev branch : ℕ
      branch = slice_index now.place_tree.branches place

      abbrev pushed : SphereColumns
      pushed = with_nodes nodes branch place number now

      abbrev new : SphereColumns
      new = with_kids nodes place number now

      grows : Grows begin pushed
      grows = pushed_all begin nodes branch place number now walks.grows is_row

      extends : Extends branch place now pushed
      extends = extended nodes branch place number now walks.grows.entries

      more : length begin.place_tree.place_parents ≤ length now.place_tree.place_parents
      more = walks.grows.more

      count : length pushed.place_tree.place_parents ≡ length now.place_tree.place_parents + length nodes
      count = places_more nodes branch place number now

      firsts_at : (p : ℕ) → p ≢ place → slice_index new.place_tree.firsts p ≡ slice_index pushed.place_tree.firsts p
      firsts_at p differ = get_or-set_other pushed.place_tree.firsts place p (length now.place_tree.place_parents) 0 differ

      counts_at : (p : ℕ) → p ≢ place → slice_index new.place_tree.counts p ≡ slice_index pushed.place_tree.counts p
      counts_at p differ = get_or-set_other pushed.place_tree.counts place p (length nodes) 0 differ

      -- the children of another place are unchanged
      others : (p : ℕ) → p < length now.place_tree.place_parents → p ≢ place → kids_of new.place_tree p ≡ kids_of now.place_tree p
      others p lt differ =
          ap (λ n. range_with_len n (slice_index new.place_tree.counts p)) (firsts_at p differ ∙ extends.firsts p lt)
          ∙ ap (range_with_len (slice_index now.place_tree.firsts p)) (counts_at p differ ∙ extends.counts p lt)

      here : kids_of new.place_tree place ≡ range_with_len (length now.place_tree.place_parents) (length nodes)
      here =
          let f = grows.entries.firsts in let c = grows.entries.counts in
          let le = extends.more in
          ap (λ n. range_with_len n (slice_index new.place_tree.counts place)) (get_or-set_same pushed.place_tree.firsts place
          (length now.place_tree.place_parents) 0 (omega (arith, high, more, le, f)))
          ∙ ap (range_with_len (length now.place_tree.place_parents)) (get_or-set_same pushed.place_tree.counts place (length nodes) 0
          (omega (arith, high, more, le, c)))

      still_grows : Grows begin new
      still_grows = record {
        kin_room = grows.kin_room;
        ranked_room = grows.ranked_room;
        starts = grows.starts;
        entries = record {
          nodes = grows.entries.nodes;
          branches = grows.entries.branches;
          firsts = length-set pushed.place_tree.firsts place (length now.place_tree.place_parents) ∙ grows.entries.firsts;
          counts = length-set pushed.place_tree.counts place (length nodes) ∙ grows.entries.counts;
          numbers = grows.entries.numbers;
          before = grows.entries.before;
        };
        more = grows.more;
        rows_len = grows.rows_len;
        node = grows.node;
        branch = grows.branch;
        parent_place = grows.parent_place;
        number = grows.number;
        before = grows.before;
        row = grows.row;
        new_row = grows.new_row;
        new_number = grows.new_number;
        new_before = grows.new_before;
        new_count = λ p l h. counts_at p (λ e. absurd (omega (arith, e, l, high))) ∙ grows.new_count p l h;
      }

      -- a new place is one of before, or below this one
      which_new : (p : ℕ) → p < length new.place_tree.place_parents → (p < length now.place_tree.place_parents) ⊎ (slice_index new.place_tree.place_parents p ≡ place)
      which_new p lt = elim (cases_lt p (length now.place_tree.place_parents)) [
        | inl before ↦ inl before
        | inr behind ↦ inr (extends.below p behind lt)
      ]

      kid_stays : (p kid : ℕ) → (length begin.place_tree.place_parents ≤ kid) × (kid < length now.place_tree.place_parents)
          × (slice_index now.place_tree.place_parents kid ≡ p)
          → (length begin.place_tree.place_parents ≤ kid) × (kid < length new.place_tree.place_parents) × (slice_index new.place_tree.place_parents kid ≡ p)
      kid_stays p kid is = (
        is.0,
        (let lt = is.1 in let le = extends.more in omega (arith, lt, le)),
        extends.place_parents kid is.1 ∙ is.2,
      )

      pub walked : Walks begin first size kids_at unresolved (suc place) new
      walked = record {
        grows = still_grows;
        listed = listed_on new.place_tree.nodes nodes (nodes_behind nodes branch place number now) (is_nodes
            ∙ sym (ap (λ b. cond b (kids_at (slice_index begin.place_tree.nodes place)) []) is_unresolved));
        untouched = λ p lt which. others p (omega (arith, lt, more)) (apart p which)
            ∙ walks.untouched p lt (wider p which);
        done = λ p l h. elim (before_it p h) [
          | inl before ↦ subst (AllByRecursion (λ kid. (length begin.place_tree.place_parents ≤ kid) × (kid < length new.place_tree.place_parents)
              × (slice_index new.place_tree.place_parents kid ≡ p))) (sym (others p (omega (arith, before, high, more))
              (λ e. absurd (omega (arith, e, before)))))
              (all_by (kid_stays p) (kids_of now.place_tree p) (walks.done p l before))
          | inr at ↦ rw at (subst (AllByRecursion (λ kid. (length begin.place_tree.place_parents ≤ kid) × (kid < length new.place_tree.place_parents)
              × (slice_index new.place_tree.place_parents kid ≡ place))) (sym here)
              (by_range (λ kid. (length begin.place_tree.place_parents ≤ kid) × (kid < length new.place_tree.place_parents)
              × (slice_index new.place_tree.place_parents kid ≡ place)) (length now.place_tree.place_parents) (length nodes) (λ kid kl kh.
              (omega (arith, kl, more), omega (arith, kh, count), extends.below kid kl (omega (arith, kh, count))))))
        ];
        node_data = λ p l h is. elim (before_it p h) [
          | inl before ↦
              let same = others p (omega (arith, before, high, more)) (λ e. absurd (omega (arith, e, before))) in
              ap (map (slice_index new.place_tree.nodes)) same
              ∙ map_alike (slice_index new.place_tree.nodes) (slice_index now.place_tree.nodes) (kids_of now.place_tree p)
              (all_by (λ kid k. extends.nodes kid k.1) (kids_of now.place_tree p) (walks.done p l before))
              ∙ walks.node_data p l before is
          | inr at ↦
              ap (λ q. map (slice_index new.place_tree.nodes) (kids_of new.place_tree q)) at
              ∙ ap (map (slice_index new.place_tree.nodes)) here
              ∙ nodes_told nodes branch place number now walks.grows.entries ∙ is_nodes
              ∙ ap (λ q. kids_at (slice_index begin.place_tree.nodes q)) (sym at)
        ];
        new_kid = λ p l h. elim (cases_lt p (length now.place_tree.place_parents)) [
          | inl before ↦
              let q = slice_index now.place_tree.place_parents p in
              let lt = walks.new_high p l before in
              subst (λ u. IsAmong (kids_of new.place_tree u) p) (sym (extends.place_parents p before))
              (subst (λ (ns : List ℕ). IsAmong ns p) (sym (others q (omega (arith, lt, high, more))
              (λ e. absurd (omega (arith, e, lt))))) (walks.new_kid p l before))
          | inr behind ↦ subst (λ u. IsAmong (kids_of new.place_tree u) p) (sym (extends.below p behind h))
              (subst (λ (ns : List ℕ). IsAmong ns p) (sym here)
              (among_range (length now.place_tree.place_parents) (length nodes) p behind
              (omega (arith, h, count))))
        ];
        new_low = λ p l h. elim (which_new p h) [
          | inl before ↦ subst (λ n. first ≤ n) (sym (extends.place_parents p before)) (walks.new_low p l before)
          | inr below ↦ subst (λ n. first ≤ n) (sym below) low
        ];
        new_high = λ p l h. elim (which_new p h) [
          | inl before ↦ subst (λ n. n < suc place) (sym (extends.place_parents p before))
              (let lt = walks.new_high p l before in omega (arith, lt))
          | inr below ↦ subst (λ n. n < suc place) (sym below) (omega arith)
        ];
        new_node = λ p l h. elim (cases_lt p (length now.place_tree.place_parents)) [
          | inl before ↦ subst (λ n. n < size) (sym (extends.nodes p before)) (walks.new_node p l before)
          | inr behind ↦ new_nodes (λ n. n < size) nodes branch place number now walks.grows.entries
              (subst (AllByRecursion (λ n. n < size)) (sym is_nodes) within) p behind h
        ];
        new_branch = λ p l h. elim (cases_lt p (length now.place_tree.place_parents)) [
          | inl before ↦ extends.branches p before ∙ walks.new_branch p l before
              ∙ ap (slice_index begin.place_tree.branches) (sym (extends.place_parents p before))
          | inr behind ↦ extends.within p behind h ∙ walks.grows.branch place high
              ∙ ap (slice_index begin.place_tree.branches) (sym (extends.below p behind h))
        ];
        wanted_above = λ p l h. elim (which_new p h) [
          | inl before ↦ ap (λ q. has_flag unresolved (slice_index begin.place_tree.branches q)) (extends.place_parents p before)
              ∙ walks.wanted_above p l before
          | inr below ↦ ap (λ q. has_flag unresolved (slice_index begin.place_tree.branches q)) below ∙ is_unresolved
        ];
      }

    -- the same as the code walks a place or passes over it
    pub stepped : (number : ℕ) (next : SphereColumns) → number ≡ length begin.ranked.rows
        → (has_flag unresolved (slice_index now.place_tree.branches place) ≡ true
        → next ≡ with_kids (kids_at (slice_index now.place_tree.nodes place)) place number now)
        → (has_flag unresolved (slice_index now.place_tree.branches place) ≡ false → next ≡ now)
        → AllByRecursion (λ n. n < size) (kids_at (slice_index begin.place_tree.nodes place))
        → Walks begin first size kids_at unresolved (suc place) next
    stepped number next is_row walk skip within =
        let same = walks.grows.branch place high in
        elim (cases_flag (has_flag unresolved (slice_index now.place_tree.branches place))) [
          | inl is ↦ subst (Walks begin first size kids_at unresolved (suc place)) (sym (walk is))
              (walked (kids_at (slice_index now.place_tree.nodes place)) number
              (ap kids_at (walks.grows.node place high)) is_row
              (ap (has_flag unresolved) (sym same) ∙ is) within)
          | inr none ↦ subst (Walks begin first size kids_at unresolved (suc place)) (sym (skip none))
              (skipped (ap (has_flag unresolved) (sym same) ∙ none))
        ]

    -- n children more at most
    pub few_more : (number : ℕ) (next : SphereColumns)
        → (has_flag unresolved (slice_index now.place_tree.branches place) ≡ true
        → next ≡ with_kids (kids_at (slice_index now.place_tree.nodes place)) place number now)
        → (has_flag unresolved (slice_index now.place_tree.branches place) ≡ false → next ≡ now)
        → length next.place_tree.place_parents ≤ length now.place_tree.place_parents + length (kids_at (slice_index begin.place_tree.nodes place))
    few_more number next walk skip =
        let kids = kids_at (slice_index now.place_tree.nodes place) in
        let same : length kids ≡ length (kids_at (slice_index begin.place_tree.nodes place)) =
        ap (λ n. length (kids_at n)) (walks.grows.node place high) in
        elim (cases_flag (has_flag unresolved (slice_index now.place_tree.branches place))) [
          | inl is ↦
              let count : length next.place_tree.place_parents ≡ length now.place_tree.place_parents + length kids =
              ap (λ (s : SphereColumns). length s.place_tree.place_parents) (walk is)
              ∙ places_more kids (slice_index now.place_tree.branches place) place number now in
              omega (arith, same, count)
          | inr none ↦
              let count = ap (λ (s : SphereColumns). length s.place_tree.place_parents) (skip none) in
              omega (arith, count)
        ]

-- what is left from a place on
pub left_at : (kids_at : ℕ → List ℕ) (nodes : List ℕ) (place past : ℕ) → place < past
    → kids_left kids_at nodes place (past - place)
    ≡ length (kids_at (slice_index nodes place)) + kids_left kids_at nodes (place + 1) (past - (place + 1))
left_at kids_at nodes place past lt =
    let count : past - place ≡ suc (past - (place + 1)) = omega (arith, lt) in
    ap (kids_left kids_at nodes place) count
    ∙ sum_by-cons (λ p. length (kids_at (slice_index nodes p))) place (range_with_len (place + 1) (past - (place + 1)))
